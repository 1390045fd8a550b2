-- `factors::forward` meets its contract; in its loop the first k steps are taken. Assumes nothing.
use mathlib.Core.Path.{ap, ◌∙◌}
use Prim.Native.Nat.{◌-◌, ◌+◌}
use native.Mathlib.Omega.{arith}
use lib.ListN.{get_or}
use Rattle.definition.specs.Solve.{row}
use Rattle.area.proofs.Laws.{looped_none, looped_more, looped_done}
use Rattle.solve.specs.Steps.{cleared_to, forward_to}
use Rattle.solve.proofs.Steps.{words_swapped}
use Rattle.solve.proofs.factors.forward.Goals as goal

pub loop-k-init : goal.loop-k-init
loop-k-init c = looped_none

pub loop-k-preserved : goal.loop-k-preserved
loop-k-preserved c =
    let a = c.args in
    let k = c.loop-k.k in
    let p = get_or a.order.now k 0 in
    looped_more c.loop-k.invariant (omega arith)
    (c.clear.ensures
    ∙ ap (cleared_to (a.n - (k + 1)) k (row a.multipliers.now k))
    (c.swap.ensures.after ∙ words_swapped c.loop-k.x k p (omega arith) (omega (arith, c.requires.1 k (omega arith)))))

pub returns : goal.returns
unfolding forward_to
returns c = looped_done c.loop-k.invariant (omega arith)
