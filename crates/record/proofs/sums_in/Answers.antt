-- `record::sums_in` meets its contract: the fold goes over the words one by one. Assumes nothing.
use Rattle.std.proofs.Common.{◌≡◌, ℕ, ◌/◌, List, map, length, refl, ap, ◌∙◌, arith, rules}
use Rattle.std.proofs.lemmas.Fn.{fold_over}
use Rattle.std.proofs.iter.Yields.{nat_range_steps}
use Rattle.std.proofs.lemmas.Iterator.{YieldsList-from_range}
use Rattle.std.specs.List.{range_with_len}
use Rattle.definition.specs.Record.{sums}
use Rattle.record.specs.Records.{sums_of}
use Rattle.record.specs.declared.Sums.{Sums}
use Rattle.record.proofs.Words.{numbered, summing_none, summing_more, numbered_words}
use Rattle.record.proofs.sums_in.Goals as goal

pub returns : goal.returns
returns c =
    let bs = c.args.bytes.now in
    let count = length bs / 8 in
    fold_over nat_range_steps (λ (i : ℕ). i) _ (λ (is : List ℕ) (t : Sums). sums_of t ≡ sums (map (numbered bs) is)) _
    (λ is t i u f k called. (summing_more bs is i k (search rules), search rules))
    (record { start = 0; end = count }) (range_with_len 0 count) _ _
    (YieldsList-from_range 0 count count refl (omega arith)).runs (summing_none c.default.ensures) c.fold.ensures.ran
    ∙ ap sums (numbered_words bs 0 count)
