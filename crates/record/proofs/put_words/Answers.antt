-- `record::put_words` meets its contract: the first i words are written, and summed. Assumes nothing.
use Rattle.std.proofs.Common.{ℕ, ◌+◌, length, sym, ap, ◌∙◌, arith}
use Rattle.problem.specs.Setups.{setup_of}
use Rattle.record.specs.Records.{saved_words}
use Rattle.record.proofs.Saving.{writing_none, writing_more, saved_size}
use Rattle.record.proofs.put_words.Goals as goal

pub loop-i-init : goal.loop-i-init
loop-i-init c =
    let a = c.args in
    writing_none (saved_words (setup_of a.setup) a.log.now) a.out.now _
    (ap (λ (k : ℕ). k + length a.log.now) c.setup_words.ensures
    ∙ sym (saved_size a.setup.options a.setup.x0.now a.setup.lower.now a.setup.upper.now c.requires.0 a.log.now))
    (omega (arith, c.requires.1, c.setup_words.ensures)) c.default-sums.ensures

pub loop-i-preserved : goal.loop-i-preserved
loop-i-preserved c =
    writing_more c.loop-i.invariant (omega arith) c.saved_word-word.ensures c.put_word.ensures c.added-sums.ensures
