-- `trial::projected_norm` meets its contract: the fold goes over the coordinates as the definition does. Assumes nothing.
use mathlib.Core.Path.{refl, ◌∙◌}
use Prim.Native.Nat.{ℕ}
use native.Mathlib.Omega.{arith}
use Rattle.std.proofs.Common.{rules}
use Rattle.std.proofs.lemmas.Iterator.{YieldsList-from_range}
use Rattle.std.proofs.lemmas.Iterator.Consumers.{fold_from_yields_List}
use Rattle.definition.specs.Number.{max, zero64}
use Rattle.definition.specs.Driver.{projected_norm}
use Rattle.float.proofs.Constants.{zero_is}
use Rattle.area.specs.Area.{words_at, fold_rows}
use Rattle.trial.specs.Words.{projected_in}
use Rattle.area.proofs.Folds.{folded}
use Rattle.trial.proofs.projected_norm.Goals as goal

pub returns : goal.returns
unfolding projected_norm fold_rows
returns c =
    let a = c.args.area.now in
    let n = c.args.n in
    λ f.
    fold_from_yields_List _ (λ m (i : ℕ). max m (projected_in (words_at a n i))) _ _ c.fold.ensures.ran
    (YieldsList-from_range 0 n n refl (omega arith)) (λ m i r q k. search rules)
    ∙ rw zero_is (folded a n (λ i w m. max m (projected_in w)) zero64)
