-- `subspace::any_free` meets its contract: `any` goes over the coordinates as the definition does. Assumes nothing.
use mathlib.Core.Path.{refl, ◌∙◌}
use Prim.Native.Nat.{ℕ}
use native.Mathlib.Omega.{arith}
use Rattle.std.proofs.Common.{rules}
use Rattle.std.proofs.lemmas.Iterator.{YieldsList-from_range}
use Rattle.std.proofs.lemmas.Iterator.Search.{any_from_yields_List}
use Rattle.area.specs.Area.{words_at}
use Rattle.subspace.specs.State.{free_in}
use Rattle.subspace.proofs.Laws.{any_is}
use Rattle.subspace.proofs.any_free.Goals as goal

pub returns : goal.returns
returns c =
    let a = c.args.area.now in
    let n = c.args.n in
    any_from_yields_List (λ (i : ℕ). free_in (words_at a n i)) _ _ _ c.any.ensures.ran
    (YieldsList-from_range 0 n n refl (omega arith)) (λ x b q k. search rules)
    ∙ any_is a n
