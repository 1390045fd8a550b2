-- `trial::limit_of` meets its contract: the fold goes over the coordinates as the definition does. Assumes nothing.
use Rattle.std.proofs.Common.{◌≡◌, ℕ, List, [], ◌∷◌, refl, sym, ap, ◌∙◌, arith, rules}
use Rattle.std.specs.List.{fold, range_with_len}
use Rattle.std.proofs.lemmas.Fn.{fold_over}
use Rattle.std.proofs.lemmas.List.Sums.{fold-append}
use Rattle.std.proofs.iter.Yields.{nat_range_steps}
use Rattle.std.proofs.lemmas.Iterator.{YieldsList-from_range}
use mathlib.Core.Bool.{false}
use Rattle.definition.specs.Number.{step_limit}
use Rattle.definition.specs.Search as S
use Rattle.float.proofs.Constants.{step_limit_is}
use Rattle.area.specs.Area.{words_at, fold_rows}
use Rattle.search.specs.declared.Limit.{Limit}
use Rattle.search.specs.State.{limit_of}
use Rattle.trial.specs.Words.{distance_in}
use Rattle.area.proofs.Folds.{folded}
use Rattle.trial.proofs.limit_of.Goals as goal

pub returns : goal.returns
unfolding S.limit_of fold_rows
returns c =
    let a = c.args.area.now in
    let n = c.args.n in
    let step : S.Limit → ℕ → S.Limit = λ m i. S.limited (distance_in (words_at a n i)) m in
    let start : S.Limit = record { amax = step_limit; face = false } in
    fold_over nat_range_steps (λ (i : ℕ). i) _ (λ (is : List ℕ) (t : Limit). limit_of t ≡ fold step start is) _
    (λ is t i u f k called.
    (let e : limit_of u ≡ step (limit_of t) i = search rules in e ∙ ap (λ m. step m i) k ∙ sym (fold-append step start is (i ∷ [])), search rules))
    (record { start = 0; end = n }) (range_with_len 0 n) _ _
    (YieldsList-from_range 0 n n refl (omega arith)).runs (λ k. record { amax = step_limit_is k; face = false }) c.fold.ensures.ran
    ∙ folded a n (λ i w m. S.limited (distance_in w) m) start
