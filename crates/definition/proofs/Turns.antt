-- One law for the theorems on a fit: the step that a reply makes, and what holds at the next question if each part of the step keeps it. Assumes nothing.
use Prim.Native.Nat.{ℕ, zero, suc, ◌+◌, ◌-◌}
use mathlib.Core.Path.{◌≡◌, refl, sym, ap, ◌∙◌}
use mathlib.Core.Bool.{Bool, true, false, cond, ◌&&◌, true≢false}
use mathlib.Core.List.{List, map}
use Rattle.std.specs.Prelude.{Option, None, Some}
use lib.Dec.{eqb}
use lib.Ieee.{Float}
use lib.Ieee.Scale.{finite}
use Rattle.definition.specs.Number.{to_float, zero64}
use Rattle.definition.specs.Vector.{word, zeros, dot, difference}
use Rattle.definition.specs.Compact.{no_pairs, count}
use Rattle.definition.specs.Counters.{Termination, value_left, iterations_spent, charge_value, charge_gradient}
use Rattle.definition.specs.Gradient.{Probes, probes_at, both_quotient, right_quotient, left_quotient}
use Rattle.definition.specs.Search.{Search, Verdict, begin_search, trial_point, accepts, after_trial, or_failed}
use Rattle.definition.specs.Machine.{Reply, Place, Side, Phase, Machine, state, in_phase, counting, holding, trying}
use Rattle.definition.specs.Machine.{with_compact, heading, searching, with_right, ending, kind_of, suits, takes}
use Rattle.definition.specs.Driver.{Ends, chosen_end, ends_of, gradient_small, decrease_small, ask_value, try_step, by_verdict, search_along}
use Rattle.definition.specs.Driver.{towards, by_model, without_pairs, or_without_pairs, descend, iterate, learn, move, judge_trial}
use Rattle.definition.specs.Driver.{measured, complete, with_gradient, with_component, by_probes, probe_from, probed_to, probed, valued}
use Rattle.definition.specs.Driver.{on_value, on_gradient, on_not_supplied, on_probe, on_go_on, answer_in, answer}
use Rattle.definition.specs.Facts.{unprobed, unprobed_from, last_probe, last_asked, completes_in, completes_gradient, gradient_finite}
use Rattle.definition.proofs.Tests.{by_test}

-- ---- the step that a reply makes

-- the reply r, given to m, leads to the machine named last; the Bool: it completes a gradient
pub data Turn (m : Machine) : Reply → Bool → Machine → Type 0 where
  value :
      (w : Place) (v : ℕ) → m.phase ≡ Phase.value w → finite (to_float v) ≡ true
      → Turn m (Reply.value v) false (in_phase (Phase.gradient w) (valued w (to_float v) m))
  nonfinite :
      (w : Place) (v : ℕ) → m.phase ≡ Phase.value w → finite (to_float v) ≡ false
      → Turn m (Reply.value v) false (ending Termination.nonfinite (valued w (to_float v) m))
  probe :
      (w : Place) (i : ℕ) (side : Side) (v : ℕ) → m.phase ≡ Phase.probe w i side → finite (to_float v) ≡ true
      → Turn m (Reply.value v) (last_asked m (Phase.probe w i side)) (probed w i (probes_at m.terms m.trial.x i) side (to_float v) m)
  nonfinite_probe :
      (w : Place) (i : ℕ) (side : Side) (v : ℕ) → m.phase ≡ Phase.probe w i side → finite (to_float v) ≡ false
      → Turn m (Reply.value v) false (ending Termination.nonfinite m)
  supplied :
      (w : Place) (ws : List ℕ) → m.phase ≡ Phase.gradient w
      → Turn m (Reply.gradient ws) true (complete w (with_gradient (map to_float ws) m))
  differenced :
      (w : Place) → m.phase ≡ Phase.gradient w
      → Turn m Reply.not_supplied (unprobed_from m.terms.n m.terms m.trial.x 0)
      (probe_from m.terms.n w 0 (with_gradient (zeros m.terms.n) m))
  spent :
      m.phase ≡ Phase.notice → iterations_spent m.limits m.counters ≡ true
      → Turn m Reply.go_on false (ending Termination.max_iterations m)
  small :
      m.phase ≡ Phase.notice → iterations_spent m.limits m.counters ≡ false → gradient_small m ≡ true
      → Turn m Reply.go_on false (ending Termination.gtol m)
  level :
      m.phase ≡ Phase.notice → iterations_spent m.limits m.counters ≡ false → gradient_small m ≡ false → decrease_small m ≡ true
      → Turn m Reply.go_on false (ending Termination.ftol m)
  onward :
      m.phase ≡ Phase.notice → iterations_spent m.limits m.counters ≡ false → gradient_small m ≡ false → decrease_small m ≡ false
      → Turn m Reply.go_on false (descend m)
  stops : m.phase ≡ Phase.notice → Turn m Reply.stop false (ending Termination.cancelled m)
  fails : takes m Reply.failure ≡ true → Turn m Reply.failure false (ending Termination.objective_failed m)
  -- the reply is not due
  unmoved : (r : Reply) (c : Bool) → takes m r ≡ false → Turn m r c m

value_turn : (w : Place) (v : ℕ) (m : Machine) → m.phase ≡ Phase.value w → Turn m (Reply.value v) (finite (to_float v) && false) (on_value w (to_float v) m)
unfolding on_value
value_turn w v m e = go (finite (to_float v)) refl
  where
    go : (t : Bool) → finite (to_float v) ≡ t
        → Turn m (Reply.value v) (t && false)
        (cond t (in_phase (Phase.gradient w) (valued w (to_float v) m)) (ending Termination.nonfinite (valued w (to_float v) m)))
    go true q = Turn.value w v e q
    go false q = Turn.nonfinite w v e q

probe_turn :
    (w : Place) (i : ℕ) (side : Side) (v : ℕ) (m : Machine) → m.phase ≡ Phase.probe w i side
    → Turn m (Reply.value v) (finite (to_float v) && last_asked m (Phase.probe w i side)) (on_probe w i side (to_float v) m)
unfolding on_probe
probe_turn w i side v m e = go (finite (to_float v)) refl
  where
    go : (t : Bool) → finite (to_float v) ≡ t
        → Turn m (Reply.value v) (t && last_asked m (Phase.probe w i side))
        (cond t (probed w i (probes_at m.terms m.trial.x i) side (to_float v) m) (ending Termination.nonfinite m))
    go true q = Turn.probe w i side v e q
    go false q = Turn.nonfinite_probe w i side v e q

notice_turn : (m : Machine) → m.phase ≡ Phase.notice → Turn m Reply.go_on false (on_go_on m)
unfolding on_go_on iterate
notice_turn m e =
    let P : Machine → Type 0 = Turn m Reply.go_on false in
    by_test P (iterations_spent m.limits m.counters) (λ p. Turn.spent e p)
    (λ p. by_test P (gradient_small m) (λ q. Turn.small e p q)
    (λ q. by_test P (decrease_small m) (λ k. Turn.level e p q k)
    (λ k. by_test P (gradient_small m) (λ f. absurd (true≢false (sym f ∙ q))) (λ _. Turn.onward e p q k))))

pub none_suits : (r : Reply) → suits 0 r ≡ false
none_suits (Reply.value v) = refl
none_suits (Reply.gradient ws) = refl
none_suits Reply.not_supplied = refl
none_suits Reply.go_on = refl
none_suits Reply.stop = refl
none_suits Reply.failure = refl

undue : (m : Machine) (r : Reply) (c : Bool) {p : Phase} → m.phase ≡ p → suits (kind_of p) r ≡ false → Turn m r c m
undue m r c e d = Turn.unmoved r c (ap (λ (p : Phase). suits (kind_of p) r) e ∙ d)

failing : (m : Machine) {p : Phase} → m.phase ≡ p → suits (kind_of p) Reply.failure ≡ true → Turn m Reply.failure false (ending Termination.objective_failed m)
failing m e d = Turn.fails (ap (λ (p : Phase). suits (kind_of p) Reply.failure) e ∙ d)

turn_in : (p : Phase) (m : Machine) (r : Reply) → m.phase ≡ p → Turn m r (completes_in m p r) (answer_in p m r)
unfolding on_gradient on_not_supplied
turn_in (Phase.value w) m (Reply.value v) e = value_turn w v m e
turn_in (Phase.value w) m (Reply.gradient ws) e = undue m (Reply.gradient ws) true e refl
turn_in (Phase.value w) m Reply.not_supplied e = undue m Reply.not_supplied _ e refl
turn_in (Phase.value w) m Reply.go_on e = undue m Reply.go_on false e refl
turn_in (Phase.value w) m Reply.stop e = undue m Reply.stop false e refl
turn_in (Phase.value w) m Reply.failure e = failing m e refl
turn_in (Phase.gradient w) m (Reply.value v) e = undue m (Reply.value v) _ e refl
turn_in (Phase.gradient w) m (Reply.gradient ws) e = Turn.supplied w ws e
turn_in (Phase.gradient w) m Reply.not_supplied e = Turn.differenced w e
turn_in (Phase.gradient w) m Reply.go_on e = undue m Reply.go_on false e refl
turn_in (Phase.gradient w) m Reply.stop e = undue m Reply.stop false e refl
turn_in (Phase.gradient w) m Reply.failure e = failing m e refl
turn_in (Phase.probe w i side) m (Reply.value v) e = probe_turn w i side v m e
turn_in (Phase.probe w i side) m (Reply.gradient ws) e = undue m (Reply.gradient ws) true e refl
turn_in (Phase.probe w i side) m Reply.not_supplied e = undue m Reply.not_supplied _ e refl
turn_in (Phase.probe w i side) m Reply.go_on e = undue m Reply.go_on false e refl
turn_in (Phase.probe w i side) m Reply.stop e = undue m Reply.stop false e refl
turn_in (Phase.probe w i side) m Reply.failure e = failing m e refl
turn_in Phase.notice m (Reply.value v) e = undue m (Reply.value v) _ e refl
turn_in Phase.notice m (Reply.gradient ws) e = undue m (Reply.gradient ws) true e refl
turn_in Phase.notice m Reply.not_supplied e = undue m Reply.not_supplied _ e refl
turn_in Phase.notice m Reply.go_on e = notice_turn m e
turn_in Phase.notice m Reply.stop e = Turn.stops e
turn_in Phase.notice m Reply.failure e = failing m e refl
turn_in (Phase.ended t) m r e = undue m r _ e (none_suits r)

pub turn : (m : Machine) (r : Reply) → Turn m r (completes_gradient m r) (answer m r)
turn m r = turn_in m.phase m r refl

-- ---- what is kept from question to question

-- a value question raised; a gradient counted; the start held; the next trial set
abbrev pub asking : Phase → Machine → Machine
asking p m = in_phase p (counting (charge_value m.counters) m)

abbrev pub gathered : Machine → Machine
gathered m = counting (charge_gradient m.counters) m

abbrev pub started : Machine → Machine
started m = holding m.trial (gathered m)

abbrev pub aiming : Search → Machine → Machine
aiming r m =
    searching r (trying (state (trial_point m.terms.n m.terms.bounds m.held.x m.direction r.alpha) m.trial.f m.trial.g) m)

abbrev trial_slope : Machine → Float
trial_slope m = dot m.terms.n m.trial.g m.direction

-- S: while a step from the point held is sought; Q: at the next question, or the end
pub record Descends (S Q : Machine → Type 0) : Type 0 where
  pub bare : (m : Machine) → S m → S (with_compact no_pairs m)
  pub headed :
      (m : Machine) (e : Ends) → S m → ends_of m.terms m.compact m.held ≡ Some e
      → S (heading (difference m.terms.n (chosen_end m.terms.n m.held e) m.held.x) m)
  pub begun :
      (m : Machine) (r : Search) → S m
      → begin_search m.terms.n m.terms.bounds m.held.x m.held.g m.direction ≡ Some r → S (aiming r m)
  pub failed : (m : Machine) → S m → Q (ending Termination.line_search_failed m)
  pub spent : (m : Machine) → S m → value_left m.limits m.counters ≡ false → Q (ending Termination.max_evaluations m)
  pub asked : (m : Machine) → S m → value_left m.limits m.counters ≡ true → Q (asking (Phase.value Place.trial) m)

module _ {S Q : Machine → Type 0} (k : Descends S Q) where
  trial_leads : (m : Machine) → S m → Q (ask_value (Phase.value Place.trial) m)
  unfolding ask_value
  trial_leads m h = by_test Q (value_left m.limits m.counters) (k.asked m h) (k.spent m h)

  search_leads : (m : Machine) (o : Option Search) → S m → ((r : Search) → o ≡ Some r → S (aiming r m)) → Q (by_verdict m (or_failed o))
  unfolding try_step
  search_leads m None h next = k.failed m h
  search_leads m (Some r) h next = trial_leads (aiming r m) (next r refl)

  towards_leads : (e : Ends) (m : Machine) → S m → ends_of m.terms m.compact m.held ≡ Some e → Q (towards e m)
  unfolding towards search_along
  towards_leads e m h q =
      let m' = heading (difference m.terms.n (chosen_end m.terms.n m.held e) m.held.x) m in
      let h' = k.headed m e h q in
      search_leads m' (begin_search m.terms.n m.terms.bounds m.held.x m.held.g m'.direction) h' (λ r. k.begun m' r h')

  model_leads : (m : Machine) (o : Option Ends) → S m → ends_of m.terms m.compact m.held ≡ o → Q (by_model m o)
  model_leads m None h q = k.failed m h
  model_leads m (Some e) h q = towards_leads e m h q

  pairs_lead : (m : Machine) (o : Option Ends) → S m → ends_of m.terms m.compact m.held ≡ o → Q (or_without_pairs m o)
  unfolding without_pairs
  pairs_lead m None h q =
      by_test Q (eqb (count m.compact) 0) (λ _. k.failed m h)
      (λ _. model_leads (with_compact no_pairs m) (ends_of m.terms no_pairs m.held) (k.bare m h) refl)
  pairs_lead m (Some e) h q = towards_leads e m h q

  pub descend_leads : (m : Machine) → S m → Q (descend m)
  unfolding descend
  descend_leads m h = pairs_lead m (ends_of m.terms m.compact m.held) h refl

-- G: while the gradient at a place is gathered; Q true: once it is complete
pub record Gathers (G : Place → Machine → Type 0) (S : Machine → Type 0) (Q : Bool → Machine → Type 0) : Type 0 where
  pub descends : Descends S (Q true)
  pub component : (w : Place) (i : ℕ) (v : Float) (m : Machine) → G w m → G w (with_component i v m)
  pub right : (w : Place) (v : Float) (m : Machine) → G w m → G w (with_right v m)
  pub probed : (w : Place) (i : ℕ) (side : Side) (m : Machine) → G w m → value_left m.limits m.counters ≡ true → Q false (asking (Phase.probe w i side) m)
  pub spent : (w : Place) (m : Machine) → G w m → value_left m.limits m.counters ≡ false → Q false (ending Termination.max_evaluations m)
  pub nonfinite : (w : Place) (m : Machine) → G w m → gradient_finite m ≡ false → Q true (ending Termination.nonfinite (gathered m))
  pub small : (m : Machine) → G Place.start m → gradient_finite m ≡ true → gradient_small (started m) ≡ true → Q true (ending Termination.gtol (started m))
  pub steep : (m : Machine) → G Place.start m → gradient_finite m ≡ true → gradient_small (started m) ≡ false → S (started m)
  pub tried : (m : Machine) → G Place.trial m → gradient_finite m ≡ true → S (gathered m)
  pub again :
      (m : Machine) (r : Search) → G Place.trial m → gradient_finite m ≡ true
      → after_trial m.search m.held.f m.trial.f (trial_slope m) ≡ Some r → S (aiming r (gathered m))
  pub moved :
      (m : Machine) → G Place.trial m → gradient_finite m ≡ true
      → accepts m.search m.held.f m.trial.f (trial_slope m) ≡ true → Q true (move (learn (gathered m)))

module _ {G : Place → Machine → Type 0} {S : Machine → Type 0} {Q : Bool → Machine → Type 0} (k : Gathers G S Q) where
  judge_leads : (m : Machine) → G Place.trial m → gradient_finite m ≡ true → Q true (judge_trial (gathered m))
  unfolding judge_trial
  judge_leads m h e =
      by_test (λ (x : Verdict). Q true (by_verdict (gathered m) x)) (accepts m.search m.held.f m.trial.f (trial_slope m)) (k.moved m h e)
      (λ _. search_leads k.descends (gathered m) (after_trial m.search m.held.f m.trial.f (trial_slope m)) (k.tried m h e) (λ r. k.again m r h e))

  measured_leads : (w : Place) (m : Machine) → G w m → gradient_finite m ≡ true → Q true (measured w (gathered m))
  unfolding iterate
  measured_leads Place.start m h e =
      by_test (Q true) (gradient_small (started m)) (k.small m h e) (λ q. descend_leads k.descends (started m) (k.steep m h e q))
  measured_leads Place.trial m h e = judge_leads m h e

  pub complete_leads : (w : Place) (m : Machine) → G w m → Q true (complete w m)
  unfolding complete
  complete_leads w m h = by_test (Q true) (gradient_finite m) (measured_leads w m h) (k.nonfinite w m h)

  ask_leads : (w : Place) (i : ℕ) (side : Side) (m : Machine) → G w m → Q false (ask_value (Phase.probe w i side) m)
  unfolding ask_value
  ask_leads w i side m h = by_test (Q false) (value_left m.limits m.counters) (k.probed w i side m h) (k.spent w m h)

  probes_lead : (w : Place) (i : ℕ) (m next : Machine) (q : Probes) (c : Bool) → G w m → Q c next → Q (unprobed q && c) (by_probes w i m next q)
  probes_lead w i m next Probes.neither c h n = n
  probes_lead w i m next (Probes.both r l) c h n = ask_leads w i Side.right m h
  probes_lead w i m next (Probes.right_only r) c h n = ask_leads w i Side.right m h
  probes_lead w i m next (Probes.left_only l) c h n = ask_leads w i Side.left m h

  pub from_leads : (more : ℕ) (w : Place) (i : ℕ) (m : Machine) → G w m → Q (unprobed_from more m.terms m.trial.x i) (probe_from more w i m)
  unfolding probe_from unprobed_from
  from_leads zero w i m h = complete_leads w m h
  from_leads (suc more) w i m h =
      let m' = with_component i zero64 m in
      probes_lead w i m (probe_from more w (i + 1) m') (probes_at m.terms m.trial.x i) (unprobed_from more m.terms m.trial.x (i + 1)) h
      (from_leads more w (i + 1) m' (k.component w i zero64 m h))

  to_leads : (w : Place) (i : ℕ) (v : Float) (m : Machine) → G w m
      → Q (unprobed_from (m.terms.n - (i + 1)) m.terms m.trial.x (i + 1)) (probed_to w i v m)
  to_leads w i v m h = from_leads (m.terms.n - (i + 1)) w (i + 1) (with_component i v m) (k.component w i v m h)

  pub probed_leads :
      (w : Place) (i : ℕ) (q : Probes) (side : Side) (v : Float) (m : Machine) → G w m
      → Q (last_probe q side && unprobed_from (m.terms.n - (i + 1)) m.terms m.trial.x (i + 1)) (probed w i q side v m)
  probed_leads w i Probes.neither side v m h = to_leads w i zero64 m h
  probed_leads w i (Probes.both r l) Side.right v m h = ask_leads w i Side.left (with_right v m) (k.right w v m h)
  probed_leads w i (Probes.both r l) Side.left v m h = to_leads w i (both_quotient r l m.right_value v) m h
  probed_leads w i (Probes.right_only r) side v m h = to_leads w i (right_quotient (word m.trial.x i) m.trial.f r v) m h
  probed_leads w i (Probes.left_only l) side v m h = to_leads w i (left_quotient (word m.trial.x i) m.trial.f l v) m h
