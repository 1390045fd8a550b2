-- `factors::clear` meets its contract; in its loop the places before i are done, and place k stays. Assumes nothing.
use mathlib.Core.Path.{◌≡◌}
use Prim.Native.Nat.{◌+◌}
use lib.ListN.{set}
use Rattle.definition.specs.Number.{minus, times}
use Rattle.definition.specs.Vector.{word}
use Rattle.solve.proofs.Steps.{Ran}
use Rattle.solve.proofs.factors.clear.Given as goal

abbrev pub invariant-loop-i : goal.invariant-loop-i
invariant-loop-i l =
    (l.value ≡ word l.x l.k)
    × Ran (l.k + 1) l.n (λ i b. set b i (minus (word b i) (times (word l.multipliers i) (word b l.k)))) l.initial.x l.x l.i
