-- The point held is the clipped start, or the last trial taken; the value held is the reply to that very point's own question. Assumes nothing.
use Prim.Native.Nat.{ℕ, ◌<◌}
use native.Mathlib.Omega.{arith}
use mathlib.Core.Path.{◌≡◌, refl, ap, ◌∙◌, subst}
use mathlib.Core.Bool.{true, false, not, cond, ◌&&◌, true≢false}
use mathlib.Core.List.{List, [], ◌∷◌, ◌++◌, append_assoc}
use Rattle.std.specs.Prelude.{Option, None, Some}
use lib.Ieee.{Float}
use Rattle.definition.specs.Number.{to_float}
use Rattle.definition.specs.Problem.{Setup, or_else, either, projected_start}
use Rattle.definition.specs.Machine.{Reply, Place, Side, Phase, Machine, question_in, unreported}
use Rattle.definition.specs.Driver.{learn, move, answer, begin, run}
use Rattle.definition.specs.Replies.{Due, value_in, first_value}
use Rattle.definition.specs.Points.{Reported, at_notice, at_trial, takes_trial, last_taken, NoneOf, GivenAt, TakenLast, StartHeld, OwnOf}
use Rattle.definition.proofs.Accepted.{due_taken}
use Rattle.definition.proofs.Leads.{Leads, Known, answer_leads}

-- ---- a step: H is known of the point held and its value, K of a trial that may be taken, N of a trial whose value is new

abbrev Fact : Type 1
Fact = List Float → Float → Type 0

-- what is known where a gradient is gathered: the start is held already
abbrev At : Place → Type 0 → Type 0 → Type 0
At Place.start A B = A
At Place.trial A B = B

abbrev Holding : Fact → Machine → Type 0
Holding H m = H m.held.x m.held.f

abbrev Gathering : Fact → Fact → Place → Machine → Type 0
Gathering H K w m = H m.held.x m.held.f × At w (H m.trial.x m.trial.f) (K m.trial.x m.trial.f)

at_map : (w : Place) {A B C D : Type 0} → (A → C) → (B → D) → At w A B → At w C D
at_map Place.start p q h = p h
at_map Place.trial p q h = q h

module _ (H K N : Fact) where
  abbrev NextIn : Machine → Phase → Type 0
  NextIn m (Phase.value Place.start) = ⊥
  NextIn m (Phase.value Place.trial) = Holding H m
  NextIn m (Phase.gradient w) = Gathering H N w m
  NextIn m (Phase.probe w i side) = Gathering H K w m × (i < m.terms.n)
  NextIn m Phase.notice = Holding K m
  NextIn m (Phase.ended t) = unreported (Phase.ended t) ≡ false → Holding H m

  abbrev Next : Machine → Type 0
  Next m = NextIn m m.phase

  move_next : (m : Machine) → K m.trial.x m.trial.f → Next (move (learn m))
  unfolding move learn
  move_next m h = h

  leads : Leads (Gathering H K) (Holding H) (Holding H) Next
  leads = record {
    bare = λ m h. h;
    headed = λ m d h. h;
    begun = λ m end r h e q. h;
    asked = λ m h. h;
    counted = λ w m h. h;
    supplied = λ w g m h. h;
    right = λ w v m h. h;
    probed = λ w i side m h l a. (h, l);
    steep = λ m h e. h.1;
    again = λ m r h e. h.0;
    moved = λ m h e q. move_next m h.1;
    gathering_ends = λ w t m h e. h.0;
    seeking_ends = λ t m h e. h;
    aimed_ends = λ t m h e. h;
  }

-- ---- what a list of replies says

pub still_first : (o d : Option ℕ) (w : ℕ) → o ≡ Some w → either o d ≡ Some w
still_first None d w e = let z : ◌≡◌ {A = ℕ} 0 1 = cc in absurd (omega arith)
still_first (Some v) d w e = e

module _ (s : Setup) where
  given_later : {w : Place} {rs : List Reply} {x : List Float} {f : Float} (r : Reply) → GivenAt w s rs x f → GivenAt w s (r ∷ rs) x f
  given_later r g = record {
    word = g.word;
    later = r ∷ g.later;
    earlier = g.earlier;
    split = ap (λ (l : List Reply). r ∷ l) g.split;
    asked = g.asked;
    point = g.point;
    value = g.value;
  }

  given_now : (w : Place) (rs : List Reply) (v : ℕ) → (run s rs).phase ≡ Phase.value w → GivenAt w s (Reply.value v ∷ rs) (run s rs).trial.x (to_float v)
  given_now w rs v e = record { word = v; later = []; earlier = rs; split = refl; asked = e; point = ap (question_in (run s rs)) e; value = refl }

  -- a trial whose value was given, and no other trial asked about since
  abbrev Tried : List Reply → Fact
  Tried rs x f = (g : GivenAt Place.trial s rs x f) × NoneOf (λ m r. at_trial m.phase) s g.later (Reply.value g.word ∷ g.earlier)

  -- what is known after the replies, o being the last trial taken; before the first value there is no reply
  abbrev StageIn : Option (List Float) → List Reply → Machine → Phase → Type 0
  StageIn o rs m (Phase.value Place.start) = rs ≡ []
  StageIn o rs m (Phase.value Place.trial) = Holding (OwnOf o s rs) m
  StageIn o rs m (Phase.gradient w) = Gathering (OwnOf o s rs) (Tried rs) w m
  StageIn o rs m (Phase.probe w i side) = Gathering (OwnOf o s rs) (Tried rs) w m × (i < m.terms.n)
  StageIn o rs m Phase.notice = Holding (OwnOf o s rs) m
  StageIn o rs m (Phase.ended t) = unreported (Phase.ended t) ≡ false → Holding (OwnOf o s rs) m

-- ---- one reply more

module _ (s : Setup) (rs : List Reply) (r : Reply) where
  abbrev b : Machine
  b = run s rs

  -- what is held, while r takes no trial; a trial that r may take
  abbrev Held : Fact
  Held x f = takes_trial b r ≡ false → OwnOf (last_taken s rs) s (r ∷ rs) x f

  abbrev Taking : Fact
  Taking x f = (at_notice b.phase ≡ false) × (at_trial b.phase ≡ false) × (x ≡ b.trial.x) × Tried s rs x f

  taken_later : (earlier later : List Reply) → rs ≡ later ++ earlier → takes_trial b r ≡ false → TakenLast s earlier later → TakenLast s earlier (r ∷ later)
  taken_later earlier later e q h =
      let whole = e ∙ ap (λ (l : List Reply). l ++ earlier) h.split ∙ append_assoc h.after (h.taking ∷ h.between) earlier in
      record {
        after = r ∷ h.after;
        taking = h.taking;
        between = h.between;
        split = ap (λ (l : List Reply). r ∷ l) h.split;
        same = h.same;
        takes = h.takes;
        last = (subst (λ (l : List Reply). takes_trial (run s l) r ≡ false) whole q, h.last);
      }

  own_later : (o : Option (List Float)) (x : List Float) (f : Float) → OwnOf o s rs x f → takes_trial b r ≡ false → OwnOf o s (r ∷ rs) x f
  unfolding first_value given_later
  own_later None x f h q =
      record { point = h.point; given = given_later s r h.given; first = still_first (first_value rs) (value_in r) h.given.word h.first }
  own_later (Some p) x f h q =
      let g = h.given in
      record { point = h.point; given = given_later s r g; last = taken_later (Reply.value g.word ∷ g.earlier) g.later g.split q h.last }

  gathering_later :
      (w : Place) → at_notice b.phase ≡ false → at_trial b.phase ≡ false → Gathering (OwnOf (last_taken s rs) s rs) (Tried s rs) w b
      → Gathering Held Taking w b
  gathering_later w e q h = (own_later (last_taken s rs) _ _ h.0, at_map w (own_later (last_taken s rs) _ _) (λ k. (e, q, refl, k)) h.1)

  first_held : (v : ℕ) → rs ≡ [] → r ≡ Reply.value v → Held b.held.x (to_float v) × Held b.trial.x (to_float v)
  unfolding run begin last_taken first_value given_now
  first_held v e q =
      let h : StartHeld s (Reply.value v ∷ []) (projected_start s) (to_float v)
      = record { point = refl; given = given_now s Place.start [] v refl; first = refl } in
      rw (e, q) ((λ _. h), (λ _. h))

  trial_tried : (v : ℕ) → b.phase ≡ Phase.value Place.trial → r ≡ Reply.value v → Tried s (r ∷ rs) b.trial.x (to_float v)
  unfolding given_now
  trial_tried v e q = rw q (given_now s Place.trial rs v e, tt)

  known :
      (p : Phase) → b.phase ≡ p → StageIn s (last_taken s rs) rs b p
      → Known (Gathering Held Taking) (Holding Held) (Next Held Taking (Tried s (r ∷ rs))) r b p
  known (Phase.value Place.start) e h = record {
    value = λ v q f. first_held v h q;
    nonfinite = λ v q f n. (first_held v h q).0;
    failed = λ n. absurd (true≢false n);
  }
  known (Phase.value Place.trial) e h = record {
    value = λ v q f. (own_later (last_taken s rs) _ _ h, trial_tried v e q);
    nonfinite = λ v q f n. own_later (last_taken s rs) _ _ h;
    failed = λ n. own_later (last_taken s rs) _ _ h;
  }
  known (Phase.gradient w) e h = gathering_later w (ap at_notice e) (ap at_trial e) h
  known (Phase.probe w i side) e h = (gathering_later w (ap at_notice e) (ap at_trial e) h.0, h.1)
  known Phase.notice e h = own_later (last_taken s rs) _ _ h
  known (Phase.ended t) e h = tt

  tried_later : {x : List Float} {f : Float} → Taking x f → Tried s (r ∷ rs) x f
  unfolding given_later
  tried_later h = let g = h.3.0 in (given_later s r g, (subst (λ (l : List Reply). at_trial (run s l).phase ≡ false) g.split h.1, h.3.1))

  taken_now : {x : List Float} {f : Float} → takes_trial b r ≡ true → Taking x f → OwnOf (Some b.trial.x) s (r ∷ rs) x f
  unfolding given_later
  taken_now q h =
      let g = h.3.0 in
      let takes = subst (λ (l : List Reply). takes_trial (run s l) r ≡ true) g.split q in
      record {
        point = h.2;
        given = given_later s r g;
        last = record { after = []; taking = r; between = g.later; split = refl; same = h.3.1; takes = takes; last = tt };
      }

  takes_at : {p : Phase} → (answer b r).phase ≡ p → takes_trial b r ≡ (at_notice p && not (at_notice b.phase))
  takes_at e = ap (λ (p : Phase). at_notice p && not (at_notice b.phase)) e

  next_stage :
      (m : Machine) (p : Phase) → (answer b r).phase ≡ p → NextIn Held Taking (Tried s (r ∷ rs)) m p
      → StageIn s (cond (at_notice p && not (at_notice b.phase)) (Some b.trial.x) (last_taken s rs)) (r ∷ rs) m p
  next_stage m (Phase.value Place.start) e h = absurd h
  next_stage m (Phase.value Place.trial) e h = h (takes_at e)
  next_stage m (Phase.gradient w) e h = (h.0 (takes_at e), at_map w (λ k. k (takes_at e)) (λ k. k) h.1)
  next_stage m (Phase.probe w i side) e h = ((h.0.0 (takes_at e), at_map w (λ k. k (takes_at e)) tried_later h.0.1), h.1)
  next_stage m Phase.notice e h = rw h.0 (taken_now (takes_at e ∙ ap not h.0) h)
  next_stage m (Phase.ended t) e h = λ n. h n (takes_at e)

stages : (s : Setup) (rs : List Reply) → Due s rs → StageIn s (last_taken s rs) rs (run s rs) (run s rs).phase
unfolding run begin last_taken
stages s [] d = refl
stages s (r ∷ rs) d =
    let m = run s rs in
    let h = stages s rs d.1 in
    next_stage s rs r (answer m r) (answer m r).phase refl
    (answer_leads (leads (Held s rs r) (Taking s rs r) (Tried s (r ∷ rs))) m r (due_taken m r d.0)
    (λ p e. known s rs r p e (subst (StageIn s (last_taken s rs) rs m) e h)))

held_in : (s : Setup) (o : Option (List Float)) (rs : List Reply) (m : Machine) (p : Phase) → StageIn s o rs m p → unreported p ≡ false
    → Holding (OwnOf o s rs) m
held_in s o rs m (Phase.value Place.start) h e = absurd (true≢false e)
held_in s o rs m (Phase.value Place.trial) h e = h
held_in s o rs m (Phase.gradient w) h e = h.0
held_in s o rs m (Phase.probe w i side) h e = h.0.0
held_in s o rs m Phase.notice h e = h
held_in s o rs m (Phase.ended t) h e = h e

-- ---- the theorems

pub held_is_own : (s : Setup) (rs : List Reply) → Due s rs → Reported s rs → OwnOf (last_taken s rs) s rs (run s rs).held.x (run s rs).held.f
held_is_own s rs d e = held_in s (last_taken s rs) rs (run s rs) (run s rs).phase (stages s rs d) e

pub held_point : (s : Setup) (rs : List Reply) → Due s rs → Reported s rs → (run s rs).held.x ≡ or_else (last_taken s rs) (projected_start s)
held_point s rs d e = go (last_taken s rs) (held_is_own s rs d e)
  where
    go : (o : Option (List Float)) → Holding (OwnOf o s rs) (run s rs) → (run s rs).held.x ≡ or_else o (projected_start s)
    go None h = h.point
    go (Some p) h = h.point

-- the start's value is asked before any reply
pub start_asked_first : (s : Setup) (rs : List Reply) → Due s rs → (run s rs).phase ≡ Phase.value Place.start → rs ≡ []
start_asked_first s rs d e = subst (StageIn s (last_taken s rs) rs (run s rs)) e (stages s rs d)

-- a coordinate that is probed is one of the fit's
pub probed_coordinate : (s : Setup) (rs : List Reply) → Due s rs → (w : Place) (i : ℕ) (side : Side) → (run s rs).phase ≡ Phase.probe w i side
    → i < (run s rs).terms.n
probed_coordinate s rs d w i side e = (subst (StageIn s (last_taken s rs) rs (run s rs)) e (stages s rs d)).1
