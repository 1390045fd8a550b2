-- `factors::forward` meets its contract; in its loop the first k steps are taken. Assumes nothing.
use lib.ListN.{get_or}
use Rattle.definition.specs.Solve.{row}
use Rattle.area.proofs.Laws.{Looped}
use Rattle.solve.specs.Steps.{stepped}
use Rattle.solve.proofs.factors.forward.Given as goal

abbrev pub invariant-loop-k : goal.invariant-loop-k
invariant-loop-k l = Looped l.n (λ k x. stepped l.n k (row l.multipliers k) (get_or l.order k 0) x) l.initial.x l.x l.k
