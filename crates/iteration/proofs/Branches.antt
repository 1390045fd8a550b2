-- Laws of the branches of a search's start, over plain variables. Assumes nothing.
use mathlib.Core.Path.{◌≡◌, refl, sym, ap, ◌∙◌}
use Rattle.std.specs.Prelude.{Option, None, Some, option_map}
use Rattle.definition.specs.Counters.{Termination}
use Rattle.definition.specs.Search as S
use Rattle.definition.specs.Search.{begin_search, or_failed}
use Rattle.definition.specs.Machine.{Machine, ending}
use Rattle.definition.specs.Driver.{by_verdict, search_along, try_step}
use Rattle.search.specs.State.{search_of}
use Rattle.search.specs.declared.Search.{Search}

-- ---- along the direction, by what the start hands back

module _ (m : Machine) where
  abbrev begun : Option S.Search
  begun = begin_search m.terms.n m.terms.bounds m.held.x m.held.g m.direction

  pub along : (r : Option Search) (s : Search) → option_map search_of r ≡ begun → r ≡ Some s → try_step (search_of s) m ≡ search_along m
  unfolding search_along
  along r s e f = ap (λ (o : Option S.Search). by_verdict m (or_failed o)) (sym (ap (option_map search_of) f) ∙ e)

  pub along_failed : (r : Option Search) → ((s : Search) → r ≡ Some s → ⊥) → option_map search_of r ≡ begun
      → ending Termination.line_search_failed m ≡ search_along m
  unfolding search_along
  along_failed None h e = ap (λ (o : Option S.Search). by_verdict m (or_failed o)) e
  along_failed (Some s) h e = absurd (h s refl)
