-- Every point held or asked about lies within the box, and so has no NaN; where a search runs, what it rests on is finite.
-- In an open box a coordinate may still be infinite: a trial's, and at a notice or after the end that of the point held. Assumes nothing.
use Prim.Native.Nat.{ℕ, ◌<◌}
use mathlib.Core.Path.{◌≡◌, sym, ap, ◌∙◌, subst}
use mathlib.Core.Bool.{true, false, false≢true}
use mathlib.Core.List.{List}
use Rattle.std.specs.Prelude.{Option, Some}
use lib.Ieee.{Float, is_nan}
use lib.Ieee.Bits.{is_false}
use Rattle.definition.specs.Vector.{word}
use Rattle.definition.specs.Problem.{Setup, Terms, terms_of, dimension}
use Rattle.definition.specs.Gradient.{probes_at}
use Rattle.definition.specs.Search.{Search}
use Rattle.definition.specs.Machine.{Reply, Question, State, Place, Side, Phase, Machine, probe_point, question_in, question}
use Rattle.definition.specs.Driver.{run}
use Rattle.definition.specs.Replies.{Accepted, Due}
use Rattle.definition.specs.Values.{Given}
use Rattle.definition.specs.Points.{is_trial, searching, InBox, EachFinite, SearchRuns, ProbeOf}
use Rattle.definition.proofs.Order.{le_right_not_nan}
use Rattle.definition.proofs.Trials.{step_le_limit}
use Rattle.definition.proofs.Inside.{probe_of, probe_in_box}
use Rattle.definition.proofs.Questions.{Line, AtPlace, FactsIn, at_question}

given_some : {A : Type 0} (P : A → Type 0) (o : Option A) {a : A} → Given P o → o ≡ Some a → P a
given_some P o h e = rw e at h

-- ---- in the machine's own terms

probe_in : (m : Machine) (w : Place) (i : ℕ) (side : Side) → InBox m.terms m.trial.x → FactsIn m (Phase.probe w i side)
    → ProbeOf m.terms m.trial.x i side (probe_point (probes_at m.terms m.trial.x i) side i m.trial.x)
probe_in m w i side t f = probe_of m.terms m.trial.x i side t f.1 f.2

asked_in : (m : Machine) (p : Phase) → InBox m.terms m.held.x → InBox m.terms m.trial.x → FactsIn m p
    → Given (λ (q : Question). InBox m.terms q.point) (question_in m p)
asked_in m (Phase.value w) h t f = t
asked_in m (Phase.gradient w) h t f = t
asked_in m (Phase.probe w i side) h t f = probe_in_box m.terms m.trial.x i side _ t (probe_in m w i side t f)
asked_in m Phase.notice h t f = h
asked_in m (Phase.ended e) h t f = tt

trial_ready : (w : Place) (t : Terms) (h : State) (v : Float) (d : List Float) (r : Search) → AtPlace w t h v d r → is_trial w ≡ true → Line t h d r
trial_ready Place.start t h v d r k e = absurd (false≢true e)
trial_ready Place.trial t h v d r k e = k

line_in : (m : Machine) (p : Phase) → FactsIn m p → searching p ≡ true → Line m.terms m.held m.direction m.search
line_in m (Phase.value Place.start) f e = absurd (false≢true e)
line_in m (Phase.value Place.trial) f e = f
line_in m (Phase.gradient w) f e = trial_ready w m.terms m.held m.trial.f m.direction m.search f.place e
line_in m (Phase.probe w i side) f e = trial_ready w m.terms m.held m.trial.f m.direction m.search f.0.place e
line_in m Phase.notice f e = absurd (false≢true e)
line_in m (Phase.ended t) f e = absurd (false≢true e)

in_box_not_nan : (t : Terms) (x : List Float) → InBox t x → (i : ℕ) → i < t.n → is_nan (word x i) ≡ false
in_box_not_nan t x h i l = is_false (is_nan (word x i)) (le_right_not_nan (word t.bounds.lower i) (word x i) (h i l).0)

-- ---- the theorems

module _ (s : Setup) (rs : List Reply) (accepted : Accepted s) (due : Due s rs) where
  abbrev m : Machine
  m = run s rs

  in_terms : (P : Terms → Type 0) → P m.terms → P (terms_of s)
  in_terms P h = subst P (at_question s accepted rs due).placed.terms h

  pub held_in_box : InBox (terms_of s) (run s rs).held.x
  held_in_box = in_terms (λ (t : Terms). InBox t m.held.x) (at_question s accepted rs due).placed.held

  pub trial_in_box : InBox (terms_of s) (run s rs).trial.x
  trial_in_box = in_terms (λ (t : Terms). InBox t m.trial.x) (at_question s accepted rs due).placed.trial

  pub asked_in_box : (q : Question) → question (run s rs) ≡ Some q → InBox (terms_of s) q.point
  asked_in_box q e =
      let h = at_question s accepted rs due in
      let found = asked_in m m.phase h.placed.held h.placed.trial h.facts in
      in_terms (λ (t : Terms). InBox t q.point) (given_some (λ (k : Question). InBox m.terms k.point) (question m) found e)

  -- so no coordinate is a NaN
  pub held_not_nan : (i : ℕ) → i < dimension s → is_nan (word (run s rs).held.x i) ≡ false
  held_not_nan = in_box_not_nan (terms_of s) m.held.x held_in_box

  pub asked_not_nan : (q : Question) → question (run s rs) ≡ Some q → (i : ℕ) → i < dimension s → is_nan (word q.point i) ≡ false
  asked_not_nan q e = in_box_not_nan (terms_of s) q.point (asked_in_box q e)

  -- a probe moves one coordinate, to a finite value
  pub probe_finite :
      (w : Place) (i : ℕ) (side : Side) → (run s rs).phase ≡ Phase.probe w i side → (q : Question) → question (run s rs) ≡ Some q
      → ProbeOf (terms_of s) (run s rs).trial.x i side q.point
  probe_finite w i side e q k =
      let P : Terms → Question → Type 0 = λ t z. ProbeOf t m.trial.x i side z.point in
      let h = at_question s accepted rs due in
      let found = probe_in m w i side h.placed.trial (subst (FactsIn m) e h.facts) in
      in_terms (λ (t : Terms). P t q) (given_some (P m.terms) (question_in m (Phase.probe w i side)) found (ap (question_in m) (sym e) ∙ k))

  pub search_runs : searching (run s rs).phase ≡ true → SearchRuns (dimension s) (run s rs)
  search_runs e =
      let k = line_in m m.phase (at_question s accepted rs due).facts e in
      let P : List Float → Terms → Type 0 = λ v t. EachFinite t.n v in
      record {
        point = in_terms (P m.held.x) k.point;
        gradient = in_terms (P m.held.g) k.standing.gradient;
        direction = in_terms (P m.direction) k.direction;
        positive = k.search.positive;
        at_most = step_le_limit m.search.alpha k.search.alpha;
      }

  pub notice_gradient_finite : (run s rs).phase ≡ Phase.notice → EachFinite (dimension s) (run s rs).held.g
  notice_gradient_finite e =
      in_terms (λ (t : Terms). EachFinite t.n m.held.g) (subst (FactsIn m) e (at_question s accepted rs due).facts).gradient
