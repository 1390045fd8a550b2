-- What the search hands back where it hands back no trial after one that is not accepted. Assumes nothing.
use mathlib.Core.Path.{◌≡◌, refl}
use Rattle.definition.specs.Search as S
use Rattle.search.specs.State.{verdict_of}
use Rattle.search.specs.declared.Search.{Search}
use Rattle.search.specs.declared.Verdict.{Verdict}
use Rattle.search.specs.declared.Verdict.TheVariants.{Accepted, Another, Failed}

-- a step that is not accepted, and no other trial
pub judged_failed : (r : Verdict) → (r ≡ Accepted → ⊥) → ((s : Search) → r ≡ Another s → ⊥) → verdict_of r ≡ S.Verdict.failed
judged_failed Accepted h k = absurd (h refl)
judged_failed (Another s) h k = absurd (k s refl)
judged_failed Failed h k = refl
