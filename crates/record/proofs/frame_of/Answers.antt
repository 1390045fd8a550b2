-- `record::frame_of` meets its contract. Assumes nothing.
use Rattle.std.proofs.Common.{ℕ, ◌+◌, ◌-◌, ◌%◌, length, ap, arith}
use Rattle.record.proofs.Reading.{framed_fits, count_fits, bytes_lent}
use Rattle.record.proofs.frame_of.Goals as goal

pub overflow_mul-bytes : goal.overflow_mul-bytes
overflow_mul-bytes c =
    let bs = c.args.input.now in
    let k = framed_fits bs c.requires in
    omega (arith, count_fits bs (length bs - 32 + 24) _ c.requires (omega (arith, k.long)) c.word_at-count.ensures)

pub overflow_sub-bytes : goal.overflow_sub-bytes
overflow_sub-bytes c =
    let bs = c.args.input.now in
    let k = framed_fits bs c.requires in
    omega (arith, count_fits bs (length bs - 32 + 24) _ c.requires (omega (arith, k.long)) c.word_at-count.ensures)

pub returns : goal.returns
returns c =
    let bs = c.args.input.now in
    let k = framed_fits bs c.requires in
    let bytes = bytes_lent bs (length bs - 32 + 24) _ c.requires (omega (arith, k.long)) c.word_at-count.ensures in
    record {
      bytes = bytes;
      counted = record { n = ap (λ (w : ℕ). w % 256) c.word_of-first.ensures; setup = rw (c.setup_words.ensures, c.has_box.ensures, c.word_of-first.ensures) };
    }
