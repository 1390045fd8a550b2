-- `record::word_at` meets its contract. Assumes nothing.
use Rattle.std.proofs.Common.{◌∙◌, ◌≡◌, ◌-◌, length, take, drop, ap, arith, length-drop}
use Rattle.std.proofs.lemmas.List.{take_all}
use Rattle.record.proofs.Words.{word_number}
use Rattle.record.proofs.word_at.Goals as goal

pub returns : goal.returns
returns c =
    let bs = c.args.input.now in
    let rest = drop c.args.at bs in
    let chunk = rw c.unwrap.ensures at c.first_chunk.ensures.cases in
    let same : c.unwrap.result.now ≡ take 8 (take (length bs - c.args.at) rest) = chunk.same in
    c.from_le_bytes.ensures
    ∙ word_number bs c.args.at c.unwrap.result.now c.requires
    (same ∙ ap (take 8) (take_all (length bs - c.args.at) rest (omega (arith, length-drop c.args.at bs))))
