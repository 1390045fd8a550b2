-- `record::put_words` meets its contract: the first i words are written, and summed. Assumes nothing.
use Rattle.problem.specs.Setups.{setup_of}
use Rattle.record.specs.Records.{saved_words}
use Rattle.record.proofs.Saving.{Writing}
use Rattle.record.proofs.put_words.Given as goal

abbrev pub invariant-loop-i : goal.invariant-loop-i
invariant-loop-i l = Writing (saved_words (setup_of l.setup) l.log) l.initial.out l.count l.out l.sums l.i
