-- `record::Frame::vectors` meets its contract. Assumes nothing.
use Rattle.std.proofs.Common.{ap, ◌∙◌, ◌/◌, length, arith}
use Rattle.definition.proofs.Bytes.{words_of-length}
use Rattle.record.specs.Records.{floats_of}
use Rattle.record.proofs.Floats.{words_behind}
use Rattle.record.proofs.Frame.vectors.Goals as goal

pub floats_at-requires : goal.floats_at-requires
floats_at-requires c =
    let bs = c.args.self.bytes.now in
    let k = c.requires in
    (omega (arith, k.0, k.1, words_of-length (length bs / 8) bs), omega (arith, k.2))

pub returns : goal.returns
returns c =
    let bs = c.args.self.bytes.now in
    let k = c.requires in
    c.floats_at.ensures ∙ ap floats_of (words_behind bs _ _ k.0 (omega (arith, k.1, words_of-length (length bs / 8) bs)))
