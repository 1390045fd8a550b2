-- `subspace::share` meets its contract: the fold goes over the coordinates as the definition does. Assumes nothing.
use mathlib.Core.Path.{refl, ◌∙◌}
use Prim.Native.Nat.{ℕ}
use native.Mathlib.Omega.{arith}
use Rattle.std.proofs.Common.{rules}
use Rattle.std.proofs.lemmas.Iterator.{YieldsList-from_range}
use Rattle.std.proofs.lemmas.Iterator.Consumers.{fold_from_yields_List}
use Rattle.definition.specs.Number.{one64}
use Rattle.definition.specs.Geometry.{share_of}
use Rattle.float.proofs.Constants.{one_is}
use Rattle.area.specs.Area.{words_at, fold_rows}
use Rattle.subspace.specs.State.{share_in}
use Rattle.area.proofs.Folds.{folded}
use Rattle.subspace.proofs.share.Goals as goal

pub returns : goal.returns
unfolding share_of fold_rows
returns c =
    let a = c.args.area.now in
    let n = c.args.n in
    fold_from_yields_List _ (λ alpha (i : ℕ). share_in (words_at a n i) alpha) _ _ c.fold.ensures.ran
    (YieldsList-from_range 0 n n refl (omega arith)) (λ alpha i r q k. search rules)
    ∙ rw one_is (folded a n (λ i. share_in) one64)
