-- `subspace::change_each` meets its contract: the first i rows are done. Assumes nothing.
use mathlib.Core.List.{[]}
use Prim.Native.Nat.{ℕ}
use lib.Ieee.{Float}
use Rattle.subspace.specs.State.{row_each, Computes}
use Rattle.subspace.proofs.Arrays.{Changed}
use Rattle.subspace.proofs.change_each.Given as goal

abbrev pub invariant-loop-i : goal.invariant-loop-i
invariant-loop-i g l =
    (f : ℕ → ℕ → Float → Float) → Computes (goal.F-post g l.change) f → Changed [] l.size (λ i. row_each l.size (f i)) l.fn.sums l.row-items l.i
