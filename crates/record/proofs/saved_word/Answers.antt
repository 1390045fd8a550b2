-- `record::saved_word` meets its contract. Assumes nothing.
use Rattle.std.proofs.Common.{◌∙◌, arith}
use Rattle.record.proofs.Saving.{saved_first, saved_second}
use Rattle.record.proofs.saved_word.Goals as goal

pub returns-then-i-size : goal.returns-then-i-size
returns-then-i-size c =
    let a = c.args in
    c.setup_word.ensures
    ∙ saved_first a.setup.options a.setup.x0.now a.setup.lower.now a.setup.upper.now c.requires.0 a.log.now a.i
    (omega (arith, c.if-i-size.true, c.setup_words-size.ensures))

pub returns-else-i-size : goal.returns-else-i-size
returns-else-i-size c =
    let a = c.args in
    saved_second a.setup.options a.setup.x0.now a.setup.lower.now a.setup.upper.now c.requires.0 a.log.now a.i _ c.setup_words-size.ensures
    c.if-i-size.false
