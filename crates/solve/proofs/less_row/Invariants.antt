-- `solve::less_row` meets its contract; in its loop the columns before j are done, and row k stays. Assumes nothing.
use mathlib.Core.Path.{◌≡◌}
use Prim.Native.Nat.{◌+◌}
use Rattle.definition.specs.Number.{minus, times}
use Rattle.definition.specs.Solve.{row, entry, put}
use Rattle.solve.proofs.Steps.{Ran}
use Rattle.solve.proofs.less_row.Given as goal

abbrev pub invariant-loop-j : goal.invariant-loop-j
invariant-loop-j l =
    (row l.matrix l.k ≡ l.top)
    × Ran (l.k + 1) l.n (λ j c. put c l.i j (minus (entry c l.i j) (times l.multiplier (entry c l.k j)))) l.initial.matrix l.matrix l.j
