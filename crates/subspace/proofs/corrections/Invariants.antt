-- `subspace::corrections` meets its contract: the first k columns are added. Assumes nothing.
use mathlib.Core.Path.{◌≡◌}
use lib.ListN.{length}
use Rattle.area.specs.Area.{view}
use Rattle.subspace.proofs.Laws.{Added}
use Rattle.subspace.proofs.corrections.Given as goal

abbrev pub invariant-loop-column : goal.invariant-loop-column
invariant-loop-column l =
    Added l.shape l.fn.weights (view l.initial.area l.shape.n) (view l.area l.shape.n) l.column × (length l.area ≡ length l.initial.area)
