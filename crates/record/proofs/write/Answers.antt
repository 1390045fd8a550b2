-- `record::write` meets its contract. Assumes nothing.
use Rattle.std.proofs.Common.{ℕ, ◌+◌, length, sym, ap, ◌∙◌, arith}
use Rattle.problem.specs.Setups.{setup_of}
use Rattle.record.specs.Records.{saved_words}
use Rattle.record.proofs.Saving.{record_put, saved_size}
use Rattle.record.proofs.write.Goals as goal

pub returns : goal.returns
returns c =
    let a = c.args in
    let log = a.log.now in
    let size =
    ap (λ (k : ℕ). k + length log) c.setup_words.ensures
    ∙ sym (saved_size a.setup.options a.setup.x0.now a.setup.lower.now a.setup.upper.now c.requires.0 log) in
    record_put (saved_words (setup_of a.setup) log) a.out.now _ _ _ _ c.put_words-sums.ensures size
    (omega (arith, c.requires.1, c.setup_words.ensures)) c.put_trailer.ensures
