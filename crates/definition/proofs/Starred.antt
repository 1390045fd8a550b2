-- Document 01's starred cases hold, all together, and so do the orders that it warns of: from the definitions, by computation. Assumes nothing.
use mathlib.Core.Path.{◌≡◌, refl, sym, ap, ◌∙◌}
use mathlib.Core.List.{[], ◌∷◌}
use Rattle.definition.specs.Number.{one64, two_to_minus}
use Rattle.definition.specs.Compact.{Compact, update}
use Rattle.definition.specs.Starred.{All, starred, orders, full_memory}
use Rattle.definition.proofs.Opened.{opened}

pub every_starred_case : All starred
unfolding opened
every_starred_case = (refl, (refl, (refl, (refl, (refl, (refl, (refl, (refl, (refl, (refl, (refl, (refl, (refl, (refl, (refl, (refl, (refl, tt)))))))))))))))))

-- the full memory written out, so that it is computed once
abbrev written_out : Compact
written_out = record { pairs = record { s = one64 ∷ []; y = one64 ∷ [] } ∷ []; theta = one64; oldest = 0 }

full_is : full_memory ≡ written_out
unfolding opened
full_is = refl

written_out_stays : update 1 1 written_out (two_to_minus 52 ∷ []) (one64 ∷ []) ≡ written_out
unfolding opened
written_out_stays = refl

oldest_stays : update 1 1 full_memory (two_to_minus 52 ∷ []) (one64 ∷ []) ≡ full_memory
oldest_stays = ap (λ (c : Compact). update 1 1 c (two_to_minus 52 ∷ []) (one64 ∷ [])) full_is ∙ written_out_stays ∙ sym full_is

pub every_order : All orders
unfolding opened
every_order = (refl, (refl, (oldest_stays, (refl, (refl, (refl, (refl, (refl, (refl, tt)))))))))
