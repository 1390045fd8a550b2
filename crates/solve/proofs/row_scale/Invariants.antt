-- `solve::row_scale` meets its contract; in its loop m is the largest of most and the first magnitudes. Assumes nothing.
use mathlib.Core.Path.{◌≡◌}
use mathlib.Core.Bool.{false}
use lib.Ieee.{is_nan}
use Rattle.definition.specs.Number.{abs, max}
use Rattle.definition.specs.Vector.{word}
use Rattle.area.proofs.Laws.{Looped}
use Rattle.solve.proofs.row_scale.Given as goal

abbrev pub invariant-loop-x : goal.invariant-loop-x
invariant-loop-x l = (is_nan l.largest ≡ false) × Looped l.n (λ j m. max m (abs (word l.row j))) l.most l.largest l.x-index
