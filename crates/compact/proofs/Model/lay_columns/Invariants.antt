-- `compact::Model::lay_columns` meets its contract: the first k columns are laid out, and the pairs stay. Assumes nothing.
use mathlib.Core.Path.{◌≡◌}
use lib.ListN.{length}
use Rattle.area.specs.Area.{view}
use Rattle.compact.proofs.Columns.{Laying}
use Rattle.compact.proofs.Model.lay_columns.Given as goal

abbrev pub invariant-loop-column : goal.invariant-loop-column
invariant-loop-column l =
    let h = l.self.shape in
    Laying h l.self.theta (view l.initial.area h.n) (view l.area h.n) l.column × (length l.area ≡ length l.initial.area)
