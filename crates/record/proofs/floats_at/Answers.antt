-- `record::floats_at` meets its contract: the first i floats are laid. Assumes nothing.
use native.Mathlib.Omega.{arith}
use Rattle.record.proofs.Floats.{filling_none, filling_more, filling_done}
use Rattle.float.proofs.Constants.{zero_is}
use Rattle.record.proofs.floats_at.Goals as goal

pub loop-i-init : goal.loop-i-init
loop-i-init c = filling_none _ (rw zero_is) (omega arith)

pub loop-i-preserved : goal.loop-i-preserved
loop-i-preserved c = filling_more c.loop-i.invariant (omega arith) c.word_at.ensures c.word_to_float.ensures

pub returns : goal.returns
returns c = filling_done _ (rw zero_is) (omega arith) c.loop-i.invariant (omega arith)
