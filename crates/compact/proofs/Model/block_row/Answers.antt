-- `compact::Model::block_row` meets its contract: the first j entries are made. Assumes nothing.
use native.Mathlib.Omega.{arith}
use lib.Ieee.{of_bits}
use Rattle.compact.proofs.Laws.{filling_none, filling_more, filling_done}
use Rattle.compact.proofs.Model.block_row.Goals as goal

pub loop-j-init : goal.loop-j-init
unfolding of_bits
loop-j-init c = filling_none (omega arith)

pub loop-j-preserved : goal.loop-j-preserved
loop-j-preserved c = filling_more c.loop-j.invariant c.loop-j.auto.place-items c.loop-j-test.true c.block_entry.ensures

pub returns : goal.returns
unfolding of_bits
returns c = filling_done c.loop-j.invariant c.loop-j.auto.place-items c.loop-j-test.false
