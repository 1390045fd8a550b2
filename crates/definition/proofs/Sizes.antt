-- Sizes: every vector of the machine has n words at all times, there are at most maxcor pairs, and a search has at most 60 trials. Assumes nothing.
use Prim.Native.Nat.{ℕ, ◌+◌, ◌≤◌}
use native.Mathlib.Omega.{arith}
use mathlib.Core.Path.{◌≡◌, refl, sym, ap, ◌∙◌, subst}
use mathlib.Core.Bool.{Bool, true, false, not, ◌&&◌, ◌||◌, false≢true}
use mathlib.Core.List.{List, [], ◌∷◌, map}
use Rattle.std.specs.Prelude.{Option, None, Some}
use lib.Dec.{eqb, lit≤}
use lib.ListN.{length, set, length-append, length-drop, length-set, length-map}
use lib.Ieee as Ieee
use lib.Ieee.{Float}
use lib.Ieee.Scale.{finite}
use borrow.Author.Tests.{leb-false, eqb-true, eqb-false}
use Rattle.definition.specs.Number.{over, zero64, to_float}
use Rattle.definition.specs.Vector.{tab, zeros, dot, difference}
use Rattle.definition.specs.Problem.{Setup, Terms, Bounds, dimension, maxcor_of, terms_of, projected_start}
use Rattle.definition.specs.Compact.{Pair, Compact, no_pairs, curved, usable, make_room, update}
use Rattle.definition.specs.Gradient.{probes_at}
use Rattle.definition.specs.Search.{Search, limit_of, begin_search, trial_point, search_trials, following, goes_on, low_after, high_after, after_trial}
use Rattle.definition.specs.Machine.{Reply, State, Place, Machine, state, holding, trying, with_compact, heading, searching, check_due}
use Rattle.definition.specs.Driver.{learn, move, with_gradient, valued, begin, run}
use Rattle.definition.specs.Replies.{Accepted, Due}
use Rattle.definition.specs.Values.{Each}
use Rattle.definition.specs.Facts.{StateSized, PairSized, PairsSized, Sized}
use Rattle.definition.proofs.Accepted.{accepted_in_limits, due_length}
use Rattle.definition.proofs.Lists.{each_join, each_drop}
use Rattle.definition.proofs.Vectors.{length-tab}
use Rattle.definition.proofs.Tests.{by_test}
use Rattle.definition.proofs.Turns.{Turn, turn, gathered, aiming, Descends, descend_leads, Gathers, complete_leads, from_leads, probed_leads}
use Rattle.definition.proofs.Counts.{terms_stay}

-- ---- the trials of a search

-- of a search that goes on
Few : Option Search → Type 0
Few None = Unit {0}
Few (Some r) = r.trials ≤ search_trials

few_at : (o : Option Search) (r : Search) → Few o → o ≡ Some r → r.trials ≤ search_trials
unfolding Few
few_at o r h e = subst Few e h

begun_few : (n : ℕ) (b : Bounds) (x g d : List Float) → Few (begin_search n b x g d)
unfolding Few begin_search
begun_few n b x g d =
    let slope0 = dot n g d in
    let l = limit_of n b x d in
    by_test Few (finite slope0 && Ieee.lt slope0 zero64) (λ _. by_test Few (finite l.amax && Ieee.lt zero64 l.amax) (λ _. lit≤ tt) (λ _. tt)) (λ _. tt)

-- a search that goes on is below its last trial
goes_on_lem : (a b c : Bool) → not (a || b || c) ≡ true → c ≡ false
goes_on_lem true b c e = absurd (false≢true e)
goes_on_lem false true c e = absurd (false≢true e)
goes_on_lem false false true e = absurd (false≢true e)
goes_on_lem false false false e = refl

next_few : (s : Search) (f v slope : Float) → Few (after_trial s f v slope)
unfolding Few after_trial
next_few s f v slope =
    let low = low_after s f v slope in
    let high = high_after s f v slope in
    let next = following s low high in
    by_test Few (goes_on s next)
    (λ e. let q = goes_on_lem (Ieee.eq next s.alpha) (Ieee.eq next zero64) _ e in omega (arith, leb-false))
    (λ _. tt)

-- ---- the pairs

-- room for one more
Roomy : ℕ → ℕ → List Pair → Type 0
Roomy n maxcor ps = (length ps + 1 ≤ maxcor) × Each (PairSized n) ps

room_made : (n maxcor : ℕ) (ps : List Pair) → 1 ≤ maxcor → PairsSized n maxcor ps → Roomy n maxcor (make_room maxcor ps)
unfolding Roomy
room_made n maxcor ps one h =
    by_test (Roomy n maxcor) (eqb (length ps) maxcor)
    (λ e. (omega (arith, length-drop 1 ps, eqb-true), each_drop (PairSized n) 1 ps h.words))
    (λ e. (omega (arith, h.few, eqb-false), h.words))

updated_pairs :
    (n maxcor : ℕ) (c : Compact) (s y : List Float) → 1 ≤ maxcor → length s ≡ n → length y ≡ n → PairsSized n maxcor c.pairs
    → PairsSized n maxcor (update n maxcor c s y).pairs
unfolding update Roomy
updated_pairs n maxcor c s y one p q h =
    let old = make_room maxcor c.pairs in
    let new : Pair = record { s = s; y = y } in
    let room = room_made n maxcor c.pairs one h in
    by_test (λ (k : Compact). PairsSized n maxcor k.pairs) (curved (dot n s y) (dot n y y) && usable (over (dot n y y) (dot n s y)))
    (λ _. record { few = omega (arith, length-append old (new ∷ []), room.0); words = each_join (PairSized n) old (new ∷ []) room.1 ((p, q), tt) })
    (λ _. h)

-- ---- the machine

-- what `learn` makes of the pairs
abbrev learnt : Terms → Machine → Compact
learnt t m =
    update t.n t.maxcor m.compact (difference t.n m.trial.x m.held.x) (difference t.n m.trial.g m.held.g)

module _ (s : Setup) (one : 1 ≤ maxcor_of s) where
  no_pairs_lem : PairsSized (dimension s) (maxcor_of s) []
  no_pairs_lem = record { few = omega arith; words = tt }

  abbrev Keeps : Machine → Type 0
  Keeps m = (m.terms ≡ terms_of s) × Sized s m

  n_is : (m : Machine) → Keeps m → m.terms.n ≡ dimension s
  n_is m h = ap (λ (t : Terms). t.n) h.0

  n_words : (m : Machine) (f : ℕ → Float) → Keeps m → length (tab m.terms.n f) ≡ dimension s
  n_words m f h = length-tab m.terms.n f ∙ n_is m h

  -- the parts that a step changes
  turned : (m : Machine) (d : List Float) → length d ≡ dimension s → Keeps m → Keeps (heading d m)
  turned m d l h =
      let z = h.1 in
      (h.0, record { held_words = z.held_words; trial_words = z.trial_words; direction_words = l; pair_words = z.pair_words; few_trials = z.few_trials })

  regarded : (m : Machine) (t : State) (r : Search) → StateSized (dimension s) t → r.trials ≤ search_trials → Keeps m → Keeps (searching r (trying t m))
  regarded m t r l k h =
      let z = h.1 in
      (h.0, record { held_words = z.held_words; trial_words = l; direction_words = z.direction_words; pair_words = z.pair_words; few_trials = k })

  held : (m : Machine) (t : State) → StateSized (dimension s) t → Keeps m → Keeps (holding t m)
  held m t l h =
      let z = h.1 in
      (h.0, record { held_words = l; trial_words = z.trial_words; direction_words = z.direction_words; pair_words = z.pair_words; few_trials = z.few_trials })

  paired : (m : Machine) (c : Compact) → PairsSized (dimension s) (maxcor_of s) c.pairs → Keeps m → Keeps (with_compact c m)
  paired m c p h =
      let z = h.1 in
      (h.0, record { held_words = z.held_words; trial_words = z.trial_words; direction_words = z.direction_words; pair_words = p; few_trials = z.few_trials })

  aimed : (m : Machine) (o : Option Search) (r : Search) → Few o → o ≡ Some r → Keeps m → Keeps (aiming r m)
  unfolding trial_point
  aimed m o r f e h = regarded m _ r (n_words m _ h, h.1.trial_words.1) (few_at o r f e) h

  differenced_gradient : (m : Machine) (g : List Float) → length g ≡ dimension s → Keeps m → Keeps (with_gradient g m)
  differenced_gradient m g l h = regarded m (state m.trial.x m.trial.f g) m.search (h.1.trial_words.0, l) h.1.few_trials h

  learned : (m : Machine) → Keeps m → Keeps (learn m)
  unfolding learn
  learned m h =
      let pairs = updated_pairs (dimension s) (maxcor_of s) m.compact _ _ one (length-tab (dimension s) _) (length-tab (dimension s) _) h.1.pair_words in
      paired m (learnt m.terms m) (subst (λ (t : Terms). PairsSized (dimension s) (maxcor_of s) (learnt t m).pairs) (sym h.0) pairs) h

  descends : Descends Keeps Keeps
  descends = record {
    bare = λ m h. paired m no_pairs no_pairs_lem h;
    headed = λ m e h q. turned m _ (n_words m _ h) h;
    begun = λ m r h e. aimed m _ r (begun_few m.terms.n m.terms.bounds m.held.x m.held.g m.direction) e h;
    failed = λ m h. h;
    spent = λ m h e. h;
    asked = λ m h e. h;
  }

  gathers : Gathers (λ w. Keeps) Keeps (λ c. Keeps)
  unfolding move learn
  gathers = record {
    descends = descends;
    component = λ w i v m h. differenced_gradient m (set m.trial.g i v) (length-set m.trial.g i v ∙ h.1.trial_words.1) h;
    right = λ w v m h. h;
    probed = λ w i side m h e. h;
    spent = λ w m h e. h;
    nonfinite = λ w m h e. h;
    small = λ m h e q. held m m.trial h.1.trial_words h;
    steep = λ m h e q. held m m.trial h.1.trial_words h;
    tried = λ m h e. h;
    again = λ m r h e q. aimed (gathered m) _ r (next_few m.search m.held.f m.trial.f (dot m.terms.n m.trial.g m.direction)) q h;
    moved = λ m h e q. let k = learned (gathered m) h in held (learn (gathered m)) m.trial h.1.trial_words k;
  }

  kept_value : (w : Place) (v : Float) (m : Machine) → Keeps m → Keeps (valued w v m)
  kept_value Place.start v m h =
      let t = state m.trial.x v m.trial.g in
      held (trying t m) (state m.held.x v m.held.g) h.1.held_words (regarded m t m.search h.1.trial_words h.1.few_trials h)
  kept_value Place.trial v m h = regarded m (state m.trial.x v m.trial.g) m.search h.1.trial_words h.1.few_trials h

  kept : {b : Machine} {r : Reply} {c : Bool} {m : Machine} → Turn b r c m → check_due b r ≡ None → Keeps b → Keeps m
  kept {b} (Turn.value w v e q) d h = kept_value w (to_float v) b h
  kept {b} (Turn.nonfinite w v e q) d h = kept_value w (to_float v) b h
  kept {b} (Turn.probe w i side v e q) d h = probed_leads gathers w i (probes_at b.terms b.trial.x i) side (to_float v) b h
  kept {b} (Turn.nonfinite_probe w i side v e q) d h = h
  kept {b} (Turn.supplied w ws e) d h =
      complete_leads gathers w (with_gradient (map to_float ws) b)
      (differenced_gradient b (map to_float ws) (length-map ws to_float ∙ due_length b ws d ∙ n_is b h) h)
  kept {b} (Turn.differenced w e) d h =
      from_leads gathers b.terms.n w 0 (with_gradient (zeros b.terms.n) b) (differenced_gradient b (zeros b.terms.n) (n_words b _ h) h)
  kept {b} (Turn.spent e p) d h = h
  kept {b} (Turn.small e p q) d h = h
  kept {b} (Turn.level e p q k) d h = h
  kept {b} (Turn.onward e p q k) d h = descend_leads descends b h
  kept {b} (Turn.stops e) d h = h
  kept {b} (Turn.fails e) d h = h
  kept {b} (Turn.unmoved r c e) d h = h

  kept_all : (rs : List Reply) → Due s rs → Keeps (run s rs)
  unfolding run begin projected_start
  kept_all [] d =
      let x = length-tab (dimension s) _ in
      let g = length-tab (dimension s) _ in
      (refl, record { held_words = (x, g); trial_words = (x, g); direction_words = g; pair_words = no_pairs_lem; few_trials = omega arith })
  kept_all (r ∷ rs) d = kept (turn (run s rs) r) d.0 (kept_all rs d.1)

-- ---- the theorems

pub sizes : (s : Setup) (rs : List Reply) → Accepted s → Due s rs → Sized s (run s rs)
sizes s rs a d = (kept_all s (accepted_in_limits s a).pairs.0 rs d).1

pub bounds_sized : (s : Setup) (rs : List Reply) → Accepted s → Due s rs
    → (length (run s rs).terms.bounds.lower ≡ dimension s) × (length (run s rs).terms.bounds.upper ≡ dimension s)
bounds_sized s rs a d =
    let l = accepted_in_limits s a in
    let t = terms_stay s rs d in
    (ap (λ (k : Terms). length k.bounds.lower) t ∙ l.lower, ap (λ (k : Terms). length k.bounds.upper) t ∙ l.upper)
