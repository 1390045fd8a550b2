-- `record::setup_word` meets its contract. Assumes nothing.
use Rattle.std.proofs.Common.{◌∙◌}
use Rattle.record.proofs.Saving.{leading_at, start_at, bounds_at}
use Rattle.record.proofs.setup_word.Goals as goal

pub returns-then-i-lt7 : goal.returns-then-i-lt7
returns-then-i-lt7 c =
    let a = c.args in
    c.leading_word.ensures ∙ leading_at a.setup.options a.setup.x0.now a.setup.lower.now a.setup.upper.now a.i c.if-i-lt7.true

pub returns-then-i-n : goal.returns-then-i-n
returns-then-i-n c =
    let a = c.args in
    c.float_to_word.ensures ∙ start_at a.setup.options a.setup.x0.now a.setup.lower.now a.setup.upper.now a.i _ c.if-i-lt7.false c.if-i-n.true

pub returns : goal.returns
returns c =
    let a = c.args in
    c.bound_word.ensures
    ∙ bounds_at a.setup.options a.setup.x0.now a.setup.lower.now a.setup.upper.now c.requires.0 a.i c.if-i-lt7.false
    c.if-i-n.false c.requires.1
