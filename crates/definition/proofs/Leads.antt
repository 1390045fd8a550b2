-- One law for the theorems on points and values: what holds at the next question, or at the end, if each part of a step keeps what it rests on.
-- Unlike the law of `Turns` it tells the machine with its next trial set from the one before. Assumes nothing.
use Prim.Native.Nat.{ℕ, zero, suc, ◌+◌, ◌-◌, ◌≤◌, ◌<◌}
use native.Mathlib.Omega.{arith}
use mathlib.Core.Path.{◌≡◌, refl, sym, ap, ◌∙◌}
use mathlib.Core.Bool.{Bool, true, false, false≢true}
use mathlib.Core.List.{List, map}
use Rattle.std.specs.Prelude.{Option, None, Some}
use lib.Dec.{eqb}
use lib.ListN.{set}
use lib.Ieee.{Float}
use lib.Ieee.Scale.{finite}
use Rattle.definition.specs.Number.{to_float, zero64}
use Rattle.definition.specs.Vector.{word, zeros, dot, difference}
use Rattle.definition.specs.Compact.{no_pairs, count}
use Rattle.definition.specs.Counters.{Termination, value_left}
use Rattle.definition.specs.Gradient.{Probes, probes_at, both_quotient, right_quotient, left_quotient}
use Rattle.definition.specs.Search.{Search, Verdict, begin_search, accepts, after_trial, or_failed}
use Rattle.definition.specs.Machine.{Reply, Place, Side, Phase, Machine, in_phase, holding, with_compact, heading, with_right, ending, takes, suits, kind_of}
use Rattle.definition.specs.Driver.{Ends, chosen_end, ends_of, gradient_small, ask_value, try_step, by_verdict, search_along, towards, by_model}
use Rattle.definition.specs.Driver.{without_pairs, or_without_pairs, descend, iterate, learn, move, judge_trial, measured, complete}
use Rattle.definition.specs.Driver.{with_gradient, with_component, by_probes, probe_from, probed_to, probed, valued, answer}
use Rattle.definition.specs.Facts.{gradient_finite}
use Rattle.definition.specs.Points.{asks}
use Rattle.definition.proofs.Tests.{by_test}
use Rattle.definition.proofs.Turns.{Turn, turn, asking, gathered, aiming}

abbrev pub trial_slope : Machine → Float
trial_slope m = dot m.terms.n m.trial.g m.direction

-- G: while the gradient at a place is gathered; S: while a direction from the point held is sought; A: with the next trial set;
-- Q: at the next question, or the end
pub record Leads (G : Place → Machine → Type 0) (S A Q : Machine → Type 0) : Type 0 where
  pub bare : (m : Machine) → S m → S (with_compact no_pairs m)
  pub headed : (m : Machine) (d : List Float) → S m → S (heading d m)
  pub begun :
      (m : Machine) (end : List Float) (r : Search) → S m → m.direction ≡ difference m.terms.n end m.held.x
      → begin_search m.terms.n m.terms.bounds m.held.x m.held.g m.direction ≡ Some r → A (aiming r m)
  pub asked : (m : Machine) → A m → Q (asking (Phase.value Place.trial) m)
  pub counted : (w : Place) (m : Machine) → G w m → G w (gathered m)
  pub supplied : (w : Place) (g : List Float) (m : Machine) → G w m → G w (with_gradient g m)
  pub right : (w : Place) (v : Float) (m : Machine) → G w m → G w (with_right v m)
  pub probed :
      (w : Place) (i : ℕ) (side : Side) (m : Machine) → G w m → i < m.terms.n → asks (probes_at m.terms m.trial.x i) side ≡ true
      → Q (asking (Phase.probe w i side) m)
  pub steep : (m : Machine) → G Place.start m → gradient_finite m ≡ true → S (holding m.trial m)
  pub again :
      (m : Machine) (r : Search) → G Place.trial m → after_trial m.search m.held.f m.trial.f (trial_slope m) ≡ Some r → A (aiming r m)
  pub moved :
      (m : Machine) → G Place.trial m → gradient_finite m ≡ true → accepts m.search m.held.f m.trial.f (trial_slope m) ≡ true
      → Q (move (learn m))
  -- the fit may end anywhere
  pub gathering_ends : (w : Place) (t : Termination) (m : Machine) → G w m → Q (ending t m)
  pub seeking_ends : (t : Termination) (m : Machine) → S m → Q (ending t m)
  pub aimed_ends : (t : Termination) (m : Machine) → A m → Q (ending t m)

-- what is to be known where a value is asked and r is the reply: a finite one, any other, and a failure lead to Q
pub record Valued (Q : Machine → Type 0) (r : Reply) (w : Place) (m : Machine) : Type 0 where
  pub value : (v : ℕ) → r ≡ Reply.value v → finite (to_float v) ≡ true → Q (in_phase (Phase.gradient w) (valued w (to_float v) m))
  pub nonfinite : (v : ℕ) → r ≡ Reply.value v → finite (to_float v) ≡ false → Q (ending Termination.nonfinite (valued w (to_float v) m))
  pub failed : Q (ending Termination.objective_failed m)

-- what is to be known at each question
abbrev pub Known : (Place → Machine → Type 0) → (Machine → Type 0) → (Machine → Type 0) → Reply → Machine → Phase → Type 0
Known G S Q r m (Phase.value w) = Valued Q r w m
Known G S Q r m (Phase.gradient w) = G w m
Known G S Q r m (Phase.probe w i side) = G w m × (i < m.terms.n)
Known G S Q r m Phase.notice = S m
Known G S Q r m (Phase.ended t) = Unit {0}

module _ {G : Place → Machine → Type 0} {S A Q : Machine → Type 0} (k : Leads G S A Q) where
  -- ---- the next trial

  search_leads :
      (m : Machine) (o : Option Search) → Q (ending Termination.line_search_failed m) → ((r : Search) → o ≡ Some r → A (aiming r m))
      → Q (by_verdict m (or_failed o))
  unfolding try_step ask_value
  search_leads m None h next = h
  search_leads m (Some r) h next =
      let a = next r refl in
      by_test Q (value_left m.limits m.counters) (λ _. k.asked (aiming r m) a) (λ _. k.aimed_ends Termination.max_evaluations (aiming r m) a)

  towards_leads : (e : Ends) (m : Machine) → S m → Q (towards e m)
  unfolding towards search_along
  towards_leads e m h =
      let end = chosen_end m.terms.n m.held e in
      let m' = heading (difference m.terms.n end m.held.x) m in
      let h' = k.headed m m'.direction h in
      search_leads m' (begin_search m.terms.n m.terms.bounds m.held.x m.held.g m'.direction)
      (k.seeking_ends Termination.line_search_failed m' h') (λ r. k.begun m' end r h' refl)

  model_leads : (m : Machine) (o : Option Ends) → S m → Q (by_model m o)
  model_leads m None h = k.seeking_ends Termination.line_search_failed m h
  model_leads m (Some e) h = towards_leads e m h

  pairs_lead : (m : Machine) (o : Option Ends) → S m → Q (or_without_pairs m o)
  unfolding without_pairs
  pairs_lead m None h =
      by_test Q (eqb (count m.compact) 0) (λ _. k.seeking_ends Termination.line_search_failed m h)
      (λ _. model_leads (with_compact no_pairs m) (ends_of m.terms no_pairs m.held) (k.bare m h))
  pairs_lead m (Some e) h = towards_leads e m h

  descend_leads : (m : Machine) → S m → Q (descend m)
  unfolding descend
  descend_leads m h = pairs_lead m (ends_of m.terms m.compact m.held) h

  -- ---- the gradient

  measured_leads : (w : Place) (m : Machine) → G w m → gradient_finite m ≡ true → Q (measured w m)
  unfolding iterate judge_trial
  measured_leads Place.start m h e =
      let m' = holding m.trial m in
      let h' = k.steep m h e in
      by_test Q (gradient_small m') (λ _. k.seeking_ends Termination.gtol m' h') (λ _. descend_leads m' h')
  measured_leads Place.trial m h e =
      let next = after_trial m.search m.held.f m.trial.f (trial_slope m) in
      by_test (λ (x : Verdict). Q (by_verdict m x)) (accepts m.search m.held.f m.trial.f (trial_slope m)) (k.moved m h e)
      (λ _. search_leads m next (k.gathering_ends Place.trial Termination.line_search_failed m h) (λ r. k.again m r h))

  complete_leads : (w : Place) (m : Machine) → G w m → Q (complete w m)
  unfolding complete
  complete_leads w m h =
      let h' = k.counted w m h in
      by_test Q (gradient_finite m) (measured_leads w (gathered m) h') (λ _. k.gathering_ends w Termination.nonfinite (gathered m) h')

  ask_leads :
      (w : Place) (i : ℕ) (side : Side) (m : Machine) → G w m → i < m.terms.n → asks (probes_at m.terms m.trial.x i) side ≡ true
      → Q (ask_value (Phase.probe w i side) m)
  unfolding ask_value
  ask_leads w i side m h l a =
      by_test Q (value_left m.limits m.counters) (λ _. k.probed w i side m h l a) (λ _. k.gathering_ends w Termination.max_evaluations m h)

  probes_lead :
      (w : Place) (i : ℕ) (m next : Machine) (q : Probes) → probes_at m.terms m.trial.x i ≡ q → G w m → i < m.terms.n → Q next
      → Q (by_probes w i m next q)
  probes_lead w i m next Probes.neither e h l n = n
  probes_lead w i m next (Probes.both r f) e h l n = ask_leads w i Side.right m h l (ap (λ (z : Probes). asks z Side.right) e)
  probes_lead w i m next (Probes.right_only r) e h l n = ask_leads w i Side.right m h l (ap (λ (z : Probes). asks z Side.right) e)
  probes_lead w i m next (Probes.left_only f) e h l n = ask_leads w i Side.left m h l (ap (λ (z : Probes). asks z Side.left) e)

  from_leads : (more : ℕ) (w : Place) (i : ℕ) (m : Machine) → more + i ≤ m.terms.n → G w m → Q (probe_from more w i m)
  unfolding probe_from
  from_leads zero w i m l h = complete_leads w m h
  from_leads (suc more) w i m l h =
      let m' = with_component i zero64 m in
      probes_lead w i m (probe_from more w (i + 1) m') (probes_at m.terms m.trial.x i) refl h (omega arith)
      (from_leads more w (i + 1) m' (omega arith) (k.supplied w (set m.trial.g i zero64) m h))

  to_leads : (w : Place) (i : ℕ) (v : Float) (m : Machine) → i < m.terms.n → G w m → Q (probed_to w i v m)
  to_leads w i v m l h = from_leads (m.terms.n - (i + 1)) w (i + 1) (with_component i v m) (omega arith) (k.supplied w (set m.trial.g i v) m h)

  probed_leads :
      (w : Place) (i : ℕ) (q : Probes) (side : Side) (v : Float) (m : Machine) → probes_at m.terms m.trial.x i ≡ q → i < m.terms.n → G w m
      → Q (probed w i q side v m)
  probed_leads w i Probes.neither side v m e l h = to_leads w i zero64 m l h
  probed_leads w i (Probes.both r f) Side.right v m e l h =
      ask_leads w i Side.left (with_right v m) (k.right w v m h) l (ap (λ (z : Probes). asks z Side.left) e)
  probed_leads w i (Probes.both r f) Side.left v m e l h = to_leads w i (both_quotient r f m.right_value v) m l h
  probed_leads w i (Probes.right_only r) side v m e l h = to_leads w i (right_quotient (word m.trial.x i) m.trial.f r v) m l h
  probed_leads w i (Probes.left_only f) side v m e l h = to_leads w i (left_quotient (word m.trial.x i) m.trial.f f v) m l h

  -- ---- a reply that is due

  failed_leads : (r : Reply) (m : Machine) (p : Phase) → Known G S Q r m p → suits (kind_of p) Reply.failure ≡ true → Q (ending Termination.objective_failed m)
  failed_leads r m (Phase.value w) h d = h.failed
  failed_leads r m (Phase.gradient w) h d = k.gathering_ends w Termination.objective_failed m h
  failed_leads r m (Phase.probe w i side) h d = k.gathering_ends w Termination.objective_failed m h.0
  failed_leads r m Phase.notice h d = k.seeking_ends Termination.objective_failed m h
  failed_leads r m (Phase.ended t) h d = absurd (false≢true d)

  turn_leads : {m m' : Machine} {r : Reply} {c : Bool} → Turn m r c m' → takes m r ≡ true → ((p : Phase) → m.phase ≡ p → Known G S Q r m p) → Q m'
  turn_leads (Turn.value w v e q) d h = (h _ e).value v refl q
  turn_leads (Turn.nonfinite w v e q) d h = (h _ e).nonfinite v refl q
  turn_leads {m} (Turn.probe w i side v e q) d h = probed_leads w i (probes_at m.terms m.trial.x i) side (to_float v) m refl (h _ e).1 (h _ e).0
  turn_leads {m} (Turn.nonfinite_probe w i side v e q) d h = k.gathering_ends w Termination.nonfinite m (h _ e).0
  turn_leads {m} (Turn.supplied w ws e) d h = complete_leads w (with_gradient (map to_float ws) m) (k.supplied w (map to_float ws) m (h _ e))
  turn_leads {m} (Turn.differenced w e) d h =
      let n = m.terms.n in from_leads n w 0 (with_gradient (zeros n) m) (omega arith) (k.supplied w (zeros n) m (h _ e))
  turn_leads {m} (Turn.spent e p) d h = k.seeking_ends Termination.max_iterations m (h _ e)
  turn_leads {m} (Turn.small e p q) d h = k.seeking_ends Termination.gtol m (h _ e)
  turn_leads {m} (Turn.level e p q f) d h = k.seeking_ends Termination.ftol m (h _ e)
  turn_leads {m} (Turn.onward e p q f) d h = descend_leads m (h _ e)
  turn_leads {m} (Turn.stops e) d h = k.seeking_ends Termination.cancelled m (h _ e)
  turn_leads {m} {r = r} (Turn.fails e) d h = failed_leads r m m.phase (h m.phase refl) d
  turn_leads (Turn.unmoved r c e) d h = absurd (false≢true (sym e ∙ d))

  pub answer_leads : (m : Machine) (r : Reply) → takes m r ≡ true → ((p : Phase) → m.phase ≡ p → Known G S Q r m p) → Q (answer m r)
  answer_leads m r d h = turn_leads (turn m r) d h
