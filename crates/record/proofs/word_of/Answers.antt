-- `record::word_of` meets its contract. Assumes nothing.
use Rattle.std.proofs.Common.{◌∙◌}
use Rattle.record.proofs.Reading.{word_within, word_past}
use Rattle.record.proofs.word_of.Goals as goal

pub returns-then-i-bytes : goal.returns-then-i-bytes
returns-then-i-bytes c = c.word_at.ensures ∙ word_within _ _ c.if-i-bytes.true

pub returns-else-i-bytes : goal.returns-else-i-bytes
returns-else-i-bytes c = word_past _ _ _ c.if-i-bytes.false
