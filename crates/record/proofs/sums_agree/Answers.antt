-- `record::sums_agree` meets its contract. Assumes nothing.
use Rattle.std.proofs.Common.{ap, ◌∙◌, ne_eqb}
use Rattle.definition.specs.Record.{Sums}
use Rattle.record.proofs.Reading.{plain_differs, running_tells}
use Rattle.record.proofs.sums_agree.Goals as goal

pub returns-then-sums-word_at : goal.returns-then-sums-word_at
returns-then-sums-word_at c =
    let t = c.sums_in-sums.ensures in
    running_tells c.args.input.now c.args.frame c.requires _ _ _ _ (ap (λ (s : Sums). s.plain) t) (ap (λ (s : Sums). s.running) t)
    c.word_at.ensures c.word_at-then-sums-word_at.ensures c.if-sums-word_at.true

pub returns-else-sums-word_at : goal.returns-else-sums-word_at
returns-else-sums-word_at c =
    let t = c.sums_in-sums.ensures in
    ne_eqb _ _ c.if-sums-word_at.false
    ∙ plain_differs c.args.input.now c.args.frame c.requires _ _ (ap (λ (s : Sums). s.plain) t) c.word_at.ensures c.if-sums-word_at.false
