-- `replay::Source::words` meets its contract. Assumes nothing.
use Rattle.std.proofs.Common.{sym, ◌/◌, length}
use Rattle.definition.proofs.Bytes.{words_of-length}
use Rattle.replay.proofs.Source.words.Goals as goal

pub returns-in-Record : goal.returns-in-Record
returns-in-Record c = let bs = c.in-Record.input.now in rw c.in-Record.is (sym (words_of-length (length bs / 8) bs))
