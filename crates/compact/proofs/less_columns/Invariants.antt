-- `compact::less_columns` meets its contract: vector p has lost the first k columns. Assumes nothing.
use mathlib.Core.Path.{◌≡◌}
use lib.ListN.{length}
use Rattle.area.specs.Area.{view}
use Rattle.compact.proofs.Columns.{Lessened}
use Rattle.compact.proofs.less_columns.Given as goal

abbrev pub invariant-loop-column : goal.invariant-loop-column
invariant-loop-column l =
    let h = l.model.shape in
    Lessened h l.fn.weights l.to (view l.initial.area h.n) (view l.area h.n) l.column × (length l.area ≡ length l.initial.area)
