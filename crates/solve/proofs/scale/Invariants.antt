-- `solve::scale` meets its contract; in its loop most is the largest magnitude of the first rows. Assumes nothing.
use mathlib.Core.Path.{◌≡◌}
use mathlib.Core.Bool.{false}
use lib.Ieee.{is_nan}
use Rattle.definition.specs.Number.{abs, max, zero64}
use Rattle.definition.specs.Vector.{fold_to}
use Rattle.definition.specs.Solve.{entry}
use Rattle.area.proofs.Laws.{Looped}
use Rattle.solve.proofs.scale.Given as goal

abbrev pub invariant-loop-row : goal.invariant-loop-row
invariant-loop-row l =
    (is_nan l.most ≡ false) × Looped l.n (λ i most. fold_to l.n (λ j m. max m (abs (entry l.matrix i j))) most) zero64 l.most l.row-index
