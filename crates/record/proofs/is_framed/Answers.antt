-- `record::is_framed` meets its contract. Assumes nothing.
use Rattle.std.proofs.Common.{◌-◌, length, arith}
use Rattle.record.proofs.Reading.{version_other, framed_by}
use Rattle.record.proofs.is_framed.Goals as goal

pub returns-then-word_at-ne-VERSION : goal.returns-then-word_at-ne-VERSION
returns-then-word_at-ne-VERSION c =
    let bs = c.args.input.now in
    version_other bs c.if-size-lt32.false _ (length bs - 16) (omega arith) c.word_at.ensures c.if-word_at-ne-VERSION.true

pub returns : goal.returns
returns c =
    let bs = c.args.input.now in
    framed_by bs c.if-size-lt32.false _ (length bs - 16) _ (length bs - 8) (omega arith) (omega arith) c.word_at.ensures c.if-word_at-ne-VERSION.false
    c.word_at-count.ensures
