-- `area::set_each` meets its contract: the first i words are made. Assumes nothing.
use Rattle.area.proofs.Laws.{row_none, row_more, row_done}
use Rattle.area.proofs.set_each.Goals as goal

pub loop-i-init : goal.loop-i-init
loop-i-init f c = λ g k. row_none c.requires.room

pub loop-i-preserved : goal.loop-i-preserved
loop-i-preserved f c =
    let l = c.loop-i-test.true in
    λ g k. row_more (c.loop-i.invariant g k) l (k _ _ _ c.loop-i.auto.area l c.made.ensures)

pub returns : goal.returns
returns f c = λ g k. row_done (c.loop-i.invariant g k) c.loop-i-test.false
