-- `rebuild::copy_entries` meets its contract: the first i words are the record's. Assumes nothing.
use Rattle.rebuild.proofs.Pasted.{Copying}
use Rattle.rebuild.proofs.copy_entries.Given as goal

abbrev pub invariant-loop-i : goal.invariant-loop-i
invariant-loop-i l = Copying l.bytes l.count l.word-items l.i
