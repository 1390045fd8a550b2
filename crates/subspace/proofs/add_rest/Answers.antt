-- `subspace::add_rest` meets its contract: the first rows are added. Assumes nothing.
use Rattle.area.proofs.Laws.{looped_none, looped_more}
use Rattle.subspace.proofs.add_rest.Goals as goal

pub loop-row-init : goal.loop-row-init
loop-row-init c = looped_none

pub loop-row-preserved : goal.loop-row-preserved
loop-row-preserved c = looped_more c.loop-row.invariant c.loop-row-test.true c.add_row.ensures
