-- `factors::backward` meets its contract; in its loop the places from i on are known. Assumes nothing.
use Prim.Native.Nat.{◌-◌, ◌+◌}
use lib.ListN.{length, replicate}
use Rattle.definition.specs.Number.{zero64}
use Rattle.definition.specs.Solve.{system, back_row}
use Rattle.area.proofs.Laws.{Looped}
use Rattle.solve.proofs.factors.backward.Given as goal

abbrev pub invariant-loop-i : goal.invariant-loop-i
invariant-loop-i l =
    Looped l.n (λ d x. back_row l.n (system l.matrix l.right) (l.n - (d + 1)) x) (replicate (length l.right) zero64) l.x (l.n - l.i)
