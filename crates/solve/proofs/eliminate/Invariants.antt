-- `solve::eliminate` meets its contract; in its loop the rows before i are done, and row k stays. Assumes nothing.
use mathlib.Core.Path.{◌≡◌}
use Prim.Native.Nat.{◌+◌}
use lib.ListN.{replicate}
use Rattle.definition.specs.Number.{zero64}
use Rattle.definition.specs.Solve.{row}
use Rattle.solve.proofs.Steps.{Ran, cleared_row}
use Rattle.solve.proofs.eliminate.Given as goal

abbrev pub invariant-loop-i : goal.invariant-loop-i
invariant-loop-i l =
    (row l.matrix l.k ≡ l.top) × Ran (l.k + 1) l.n (cleared_row l.n l.k) (l.initial.matrix, replicate 32 zero64) (l.matrix, l.multipliers) l.i
