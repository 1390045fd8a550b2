-- `record::put_word` meets its contract. Assumes nothing.
use Rattle.std.proofs.Common.{◌∙◌, arith}
use Rattle.record.proofs.Words.{word_bytes, word-put}
use Rattle.record.proofs.put_word.Goals as goal

pub returns : goal.returns
returns c = word-put _ _ _ _ _ c.requires (omega arith) (c.copy_from_slice.ensures.after ∙ c.to_le_bytes.ensures ∙ word_bytes _)
