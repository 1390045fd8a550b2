-- The value held never rises from one reply to the next, and so is never above a finite first reply; and what the value held before is. Assumes nothing.
use Prim.Native.Nat.{ℕ, ◌<◌}
use mathlib.Core.Path.{◌≡◌, refl, sym, ap, ◌∙◌}
use mathlib.Core.Bool.{Bool, true, false, not, cond, ◌&&◌, false≢true, true≢false}
use mathlib.Core.List.{List, [], ◌∷◌}
use Rattle.std.specs.Prelude.{Some}
use lib.Dec.{T}
use lib.Ieee.{le}
use lib.Ieee.Scale.{finite}
use Rattle.definition.specs.Number.{to_float}
use Rattle.definition.specs.Problem.{Setup}
use Rattle.definition.specs.Machine.{Reply, Place, Side, Phase, Machine, suits, kind_of, unreported}
use Rattle.definition.specs.Driver.{learn, move, on_value, begin, run}
use Rattle.definition.specs.Replies.{Accepted, Due, value_in, first_value}
use Rattle.definition.specs.Points.{Reported, at_notice, takes_trial}
use Rattle.definition.proofs.Accepted.{due_taken}
use Rattle.definition.proofs.Order.{le_refl, le_trans}
use Rattle.definition.proofs.Finite.{finite_not_nan}
use Rattle.definition.proofs.Tests.{by_test}
use Rattle.definition.proofs.Turns.{none_suits}
use Rattle.definition.proofs.Leads.{Leads, Known, answer_leads}
use Rattle.definition.proofs.Own.{still_first, start_asked_first, probed_coordinate}
use Rattle.definition.proofs.Questions.{next_value}

pub held_value_never_rises :
    (s : Setup) (r : Reply) (rs : List Reply) → Accepted s → Due s (r ∷ rs) → Reported s rs
    → T (le (run s (r ∷ rs)).held.f (run s rs).held.f)
held_value_never_rises s r rs a d e = (next_value s a rs r d e).1

-- ---- the first value

-- without a report only the first value can be asked
first_asked : (p : Phase) (r : Reply) → unreported p ≡ true → suits (kind_of p) r ≡ true → p ≡ Phase.value Place.start
first_asked (Phase.value Place.start) r e d = refl
first_asked (Phase.value Place.trial) r e d = absurd (false≢true e)
first_asked (Phase.gradient w) r e d = absurd (false≢true e)
first_asked (Phase.probe w i side) r e d = absurd (false≢true e)
first_asked Phase.notice r e d = absurd (false≢true e)
first_asked (Phase.ended t) r e d = absurd (false≢true (sym (none_suits r) ∙ d))

-- the value held after the replies is finite and not above the first one, if that is finite
abbrev FromFirst : Setup → List Reply → Type 0
FromFirst s rs = (w : ℕ) × (first_value rs ≡ Some w) × (T (finite (to_float w)) → T (finite (run s rs).held.f) × T (le (run s rs).held.f (to_float w)))

first_itself : (s : Setup) (r : Reply) → Reported s (r ∷ []) → FromFirst s (r ∷ [])
unfolding run begin first_value on_value
first_itself s (Reply.value v) e = (v, refl, λ f. by_test P (finite (to_float v)) (λ _. (f, level f)) (λ _. (f, level f)))
  where
    P : Machine → Type 0
    P m = T (finite m.held.f) × T (le m.held.f (to_float v))

    level : T (finite (to_float v)) → T (le (to_float v) (to_float v))
    level f = le_refl (to_float v) (finite_not_nan (to_float v) f)
first_itself s (Reply.gradient ws) e = absurd (true≢false e)
first_itself s Reply.not_supplied e = absurd (true≢false e)
first_itself s Reply.go_on e = absurd (true≢false e)
first_itself s Reply.stop e = absurd (true≢false e)
first_itself s Reply.failure e = absurd (true≢false e)

from_first : (s : Setup) (rs : List Reply) → Accepted s → Due s rs → Reported s rs → FromFirst s rs
unfolding begin first_value
from_first s [] a d e = absurd (true≢false (unfold run in e))
from_first s (r ∷ rs) a d e = go (unreported (run s rs).phase) refl (from_first s rs a d.1)
  where
    go : (t : Bool) → unreported (run s rs).phase ≡ t → (Reported s rs → FromFirst s rs) → FromFirst s (r ∷ rs)
    go false q h =
        let k = h q in
        let v = next_value s a rs r d q in
        let w = k.0 in (
          w,
          still_first (first_value rs) (value_in r) w k.1,
          λ f. (v.0.whole, le_trans (run s (r ∷ rs)).held.f (run s rs).held.f (to_float w) v.1 (k.2 f).1),
        )
    go true q h =
        let asked = start_asked_first s rs d.1 (first_asked (run s rs).phase r q (due_taken (run s rs) r d.0)) in
        let k : Reported s (r ∷ rs) → FromFirst s (r ∷ rs) = rw asked (first_itself s r) in
        k e

pub not_above_first :
    (s : Setup) (rs : List Reply) → Accepted s → Due s rs → Reported s rs → (w : ℕ) → first_value rs ≡ Some w → T (finite (to_float w))
    → T (finite (run s rs).held.f) × T (le (run s rs).held.f (to_float w))
not_above_first s rs a d e w q f =
    let k = from_first s rs a d e in
    let same : k.0 ≡ w = cc k.1 in
    rw same at k.2 f

-- ---- the value held before

module _ (b : Machine) where
  abbrev Gathering : Place → Machine → Type 0
  Gathering w m = (m.held.f ≡ b.held.f) × (m.before ≡ b.before) × (at_notice b.phase ≡ false)

  abbrev Unmoved : Machine → Type 0
  Unmoved m = m.before ≡ b.before

  abbrev Next : Machine → Type 0
  Next m = m.before ≡ cond (at_notice m.phase && not (at_notice b.phase)) b.held.f b.before

  move_next : (m : Machine) → Gathering Place.trial m → Next (move (learn m))
  unfolding move learn
  move_next m h = rw h.2 h.0

  leads : Leads Gathering Unmoved Unmoved Next
  leads = record {
    bare = λ m h. h;
    headed = λ m d h. h;
    begun = λ m end r h e q. h;
    asked = λ m h. h;
    counted = λ w m h. h;
    supplied = λ w g m h. h;
    right = λ w v m h. h;
    probed = λ w i side m h l a. h.1;
    steep = λ m h e. h.1;
    again = λ m r h e. h.1;
    moved = λ m h e q. move_next m h;
    gathering_ends = λ w t m h. h.1;
    seeking_ends = λ t m h. h;
    aimed_ends = λ t m h. h;
  }

  known :
      (r : Reply) (p : Phase) → b.phase ≡ p → ((w : Place) (i : ℕ) (side : Side) → b.phase ≡ Phase.probe w i side → i < b.terms.n)
      → Known Gathering Unmoved Next r b p
  known r (Phase.value Place.start) e l = record { value = λ v q f. refl; nonfinite = λ v q f. refl; failed = refl }
  known r (Phase.value Place.trial) e l = record { value = λ v q f. refl; nonfinite = λ v q f. refl; failed = refl }
  known r (Phase.gradient w) e l = (refl, refl, ap at_notice e)
  known r (Phase.probe w i side) e l = ((refl, refl, ap at_notice e), l w i side e)
  known r Phase.notice e l = refl
  known r (Phase.ended t) e l = tt

-- what the test of the decrease compares with is the value held before the last trial was taken
pub before_is_held_before :
    (s : Setup) (r : Reply) (rs : List Reply) → Due s (r ∷ rs)
    → (run s (r ∷ rs)).before ≡ cond (takes_trial (run s rs) r) (run s rs).held.f (run s rs).before
unfolding run
before_is_held_before s r rs d =
    answer_leads (leads (run s rs)) (run s rs) r (due_taken (run s rs) r d.0) (λ p e. known (run s rs) r p e (probed_coordinate s rs d.1))
