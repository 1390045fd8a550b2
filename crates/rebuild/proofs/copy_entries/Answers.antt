-- `rebuild::copy_entries` meets its contract: the first i words are the record's. Assumes nothing.
use native.Mathlib.Omega.{arith}
use Rattle.rebuild.proofs.Pasted.{copying_none, copying_more, copying_done}
use Rattle.rebuild.proofs.copy_entries.Goals as goal

pub loop-i-init : goal.loop-i-init
loop-i-init c = copying_none c.args.log.now c.requires.1

pub loop-i-preserved : goal.loop-i-preserved
loop-i-preserved c = copying_more c.loop-i.invariant (omega arith) c.word_at.ensures

pub returns : goal.returns
returns c = copying_done c.args.log.now c.loop-i.invariant (omega arith)
