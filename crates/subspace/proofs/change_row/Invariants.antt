-- `subspace::change_row` meets its contract: the first j entries are done. Assumes nothing.
use Prim.Native.Nat.{ℕ}
use lib.Ieee.{Float, nan}
use Rattle.subspace.specs.State.{Computes}
use Rattle.subspace.proofs.Arrays.{Changed}
use Rattle.subspace.proofs.change_row.Given as goal

abbrev pub invariant-loop-j : goal.invariant-loop-j
invariant-loop-j g l =
    (f : ℕ → ℕ → Float → Float) → Computes (goal.F-post g l.change) f → Changed nan l.size (f l.i) l.fn.row l.sum-items l.j
