-- `record::Frame::count` meets its contract. Assumes nothing.
use Rattle.std.proofs.Common.{sym, ◌/◌, length}
use Rattle.definition.proofs.Bytes.{words_of-length}
use Rattle.record.proofs.Frame.count.Goals as goal

pub returns : goal.returns
returns c = let bs = c.args.self.bytes.now in sym (words_of-length (length bs / 8) bs)
