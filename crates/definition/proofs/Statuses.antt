-- What each status says: the situation that it names, and for six of the eight that situation alone. Assumes nothing.
use Prim.Native.Nat.{ℕ, ◌≤◌, ◌<◌}
use native.Mathlib.Omega.{arith}
use mathlib.Core.Path.{◌≡◌, refl, sym, ap, ◌∙◌, subst}
use mathlib.Core.Bool.{Bool, true, false, cond, true≢false, false≢true}
use mathlib.Core.List.{List, [], ◌∷◌, map}
use lib.Dec.{eqb}
use lib.Ieee.{Float}
use lib.Ieee.Scale.{finite}
use borrow.Author.Tests.{ltb-true, ltb-false, leb-true, leb-false, eq-eqb, ne_eqb}
use Rattle.definition.specs.Number.{to_float}
use Rattle.definition.specs.Vector.{zeros}
use Rattle.definition.specs.Problem.{Setup, Limits, limits_of}
use Rattle.definition.specs.Counters.{Termination, Counters, value_left, iterations_spent}
use Rattle.definition.specs.Gradient.{probes_at}
use Rattle.definition.specs.Machine.{Reply, Place, Phase, Machine, in_phase, with_right, ending, kind_of, suits, takes}
use Rattle.definition.specs.Driver.{answer, gradient_small, decrease_small, descend, learn, move, with_gradient, valued, begin, run}
use Rattle.definition.specs.Replies.{Accepted, Due}
use Rattle.definition.specs.Facts.{completes_gradient, gradient_finite, Tested, Nonfinite, Situation, exact}
use Rattle.definition.proofs.Accepted.{accepted_in_limits, due_taken}
use Rattle.definition.proofs.Turns.{Turn, turn, asking, gathered, started, Descends, descend_leads, Gathers, complete_leads, from_leads, probed_leads}
use Rattle.definition.proofs.Counts.{limits_stay, nfev_within_budget, nit_within_budget}

-- ---- what is known while a fit runs

-- before the first gradient is complete
record FreshIn (l : Limits) (k : Counters) : Type 0 where
  none : k.njev ≡ 0
  first : k.nit ≡ 0
  left : k.nit < l.maxiter
  within : k.nfev ≤ l.maxfev

-- after it, while a step is sought: no test has ended the fit at the point held
record SteepIn (small level : Bool) (l : Limits) (k : Counters) : Type 0 where
  some : 1 ≤ k.njev
  steep : small ≡ false
  falling : 1 ≤ k.nit → level ≡ false
  left : k.nit < l.maxiter
  within : k.nfev ≤ l.maxfev

abbrev Steep : Machine → Type 0
Steep m = SteepIn (gradient_small m) (decrease_small m) m.limits m.counters

abbrev Known : Place → Machine → Type 0
Known Place.start m = FreshIn m.limits m.counters
Known Place.trial m = Steep m

known_gradient : (w : Place) (g : List Float) (m : Machine) → Known w m → Known w (with_gradient g m)
unfolding gradient_small decrease_small
known_gradient Place.start g m h = h
known_gradient Place.trial g m h = h

known_right : (w : Place) (v : Float) (m : Machine) → Known w m → Known w (with_right v m)
unfolding gradient_small decrease_small
known_right Place.start v m h = h
known_right Place.trial v m h = h

known_value : (w : Place) (v : Float) (m : Machine) → Known w m → Known w (in_phase (Phase.gradient w) (valued w v m))
unfolding gradient_small decrease_small
known_value Place.start v m h = h
known_value Place.trial v m h = h

steep_asked : (p : Phase) (m : Machine) → Steep m → value_left m.limits m.counters ≡ true → Steep (asking p m)
unfolding gradient_small decrease_small
steep_asked p m h e = record { some = h.some; steep = h.steep; falling = h.falling; left = h.left; within = omega (arith, ltb-true) }

known_asked : (w : Place) (p : Phase) (m : Machine) → Known w m → value_left m.limits m.counters ≡ true → Known w (asking p m)
known_asked Place.start p m h e = record { none = h.none; first = h.first; left = h.left; within = omega (arith, ltb-true) }
known_asked Place.trial p m h e = steep_asked p m h e

-- ---- what is told at a question or at the end

abbrev Told : Bool → Reply → Machine → Phase → Type 0
Told c r m (Phase.value w) = Known w m
Told c r m (Phase.gradient w) = Known w m
Told c r m (Phase.probe w i side) = Known w m
Told c r m Phase.notice = 1 ≤ m.counters.njev
Told c r m (Phase.ended t) = Situation t c r m

record Meets (r : Reply) (c : Bool) (m : Machine) : Type 0 where
  told : Told c r m m.phase
  -- a gradient just completed ends the fit if it is not finite, or if it is the first and small
  nonfinite : c ≡ true → gradient_finite m ≡ false → m.phase ≡ Phase.ended Termination.nonfinite
  first : c ≡ true → gradient_finite m ≡ true → m.counters.njev ≡ 1 → gradient_small m ≡ true → m.phase ≡ Phase.ended Termination.gtol

no_gradient : {r : Reply} (m : Machine) → Told false r m m.phase → Meets r false m
no_gradient m t = record { told = t; nonfinite = λ e. absurd (false≢true e); first = λ e. absurd (false≢true e) }

-- a step is sought, and a gradient just completed is finite
abbrev Seeking : Bool → Machine → Type 0
Seeking c m = Steep m × (c ≡ true → gradient_finite m ≡ true)

sought : {r : Reply} {c : Bool} (m : Machine) → Seeking c m → Told c r m m.phase → Meets r c m
sought m h t = record {
  told = t;
  nonfinite = λ e q. absurd (true≢false (sym (h.1 e) ∙ q));
  first = λ e q j s. absurd (true≢false (sym s ∙ h.0.steep));
}

spent_values : (m : Machine) → m.counters.nfev ≤ m.limits.maxfev → value_left m.limits m.counters ≡ false → m.counters.nfev ≡ m.limits.maxfev
spent_values m h e = omega (arith, ltb-false)

spent_known : (w : Place) (m : Machine) → Known w m → value_left m.limits m.counters ≡ false
    → (m.counters.nfev ≡ m.limits.maxfev) × (m.counters.nit < m.limits.maxiter)
spent_known Place.start m h e = (spent_values m h.within e, h.left)
spent_known Place.trial m h e = (spent_values m h.within e, h.left)

-- ---- from question to question

module _ (r : Reply) where
  descends : (c : Bool) → Descends (Seeking c) (Meets r c)
  unfolding gradient_small decrease_small
  descends c = record {
    bare = λ m h. h;
    headed = λ m e h q. h;
    begun = λ m q h e. h;
    failed = λ m h. sought (ending Termination.line_search_failed m) h (h.0.steep, h.0.left, h.0.falling);
    spent = λ m h e. sought (ending Termination.max_evaluations m) h (spent_values m h.0.within e, h.0.left);
    asked = λ m h e. let k = steep_asked (Phase.value Place.trial) m h.0 e in sought (asking (Phase.value Place.trial) m) (k, h.1) k;
  }

  steep_now : (m : Machine) → FreshIn m.limits m.counters → gradient_small (started m) ≡ false → Steep (started m)
  unfolding gradient_small decrease_small
  steep_now m h q = record { some = omega arith; steep = q; falling = λ l. absurd (omega (arith, h.first)); left = h.left; within = h.within }

  steep_still : (m : Machine) → Steep m → Steep (gathered m)
  unfolding gradient_small decrease_small
  steep_still m h = record { some = omega arith; steep = h.steep; falling = h.falling; left = h.left; within = h.within }

  nonfinite_ends : (w : Place) (m : Machine) → Known w m → gradient_finite m ≡ false → Meets r true (ending Termination.nonfinite (gathered m))
  nonfinite_ends w m h e = record { told = Nonfinite.gradient refl e; nonfinite = λ _ _. refl; first = λ _ q j s. absurd (true≢false (sym q ∙ e)) }

  small_ends :
      (m : Machine) → FreshIn m.limits m.counters → gradient_finite m ≡ true → gradient_small (started m) ≡ true
      → Meets r true (ending Termination.gtol (started m))
  unfolding gradient_small
  small_ends m h e q = record {
    told = (Tested.at_start refl (omega (arith, h.none)) e, q);
    nonfinite = λ _ f. absurd (true≢false (sym e ∙ f));
    first = λ _ _ _ _. refl;
  }

  moved_notices : (m : Machine) → Steep m → gradient_finite m ≡ true → Meets r true (move (learn (gathered m)))
  unfolding move learn
  moved_notices m h e = record {
    told = omega (arith, h.some);
    nonfinite = λ _ f. absurd (true≢false (sym e ∙ f));
    first = λ _ _ j _. absurd (omega (arith, h.some));
  }

  gathers : Gathers Known (Seeking true) (Meets r)
  unfolding gradient_small decrease_small
  gathers = record {
    descends = descends true;
    component = λ w i v m h. known_gradient w _ m h;
    right = λ w v m h. known_right w v m h;
    probed = λ w i side m h e. no_gradient (asking (Phase.probe w i side) m) (known_asked w (Phase.probe w i side) m h e);
    spent = λ w m h e. no_gradient (ending Termination.max_evaluations m) (spent_known w m h e);
    nonfinite = λ w m h e. nonfinite_ends w m h e;
    small = λ m h e q. small_ends m h e q;
    steep = λ m h e q. (steep_now m h q, λ _. e);
    tried = λ m h e. (steep_still m h, λ _. e);
    again = λ m q h e s. (steep_still m h, λ _. e);
    moved = λ m h e q. moved_notices m h e;
  }

-- ---- after every reply

-- what is told of a machine, whatever reply led to it
record Stands (m : Machine) : Type 0 where
  completes : Bool
  last : Reply
  told : Told completes last m m.phase
  iterations : m.counters.nit ≤ m.limits.maxiter
  values : m.counters.nfev ≤ m.limits.maxfev

in_phase_lem : (b : Machine) (h : Stands b) {p : Phase} → b.phase ≡ p → Told h.completes h.last b p
in_phase_lem b h e = subst (Told h.completes h.last b) e h.told

meets : {b : Machine} {r : Reply} {c : Bool} {m : Machine} → Turn b r c m → takes b r ≡ true → Stands b → Meets r c m
unfolding gradient_small decrease_small
meets {b} (Turn.value w v e q) d h = no_gradient _ (known_value w (to_float v) b (in_phase_lem b h e))
meets {b} (Turn.nonfinite w v e q) d h = no_gradient _ (Nonfinite.value v refl q)
meets {b} (Turn.probe w i side v e q) d h = probed_leads (gathers (Reply.value v)) w i (probes_at b.terms b.trial.x i) side (to_float v) b (in_phase_lem b h e)
meets {b} (Turn.nonfinite_probe w i side v e q) d h = no_gradient _ (Nonfinite.value v refl q)
meets {b} (Turn.supplied w ws e) d h =
    complete_leads (gathers (Reply.gradient ws)) w (with_gradient (map to_float ws) b) (known_gradient w (map to_float ws) b (in_phase_lem b h e))
meets {b} (Turn.differenced w e) d h =
    let g = zeros b.terms.n in
    from_leads (gathers Reply.not_supplied) b.terms.n w 0 (with_gradient g b) (known_gradient w g b (in_phase_lem b h e))
meets {b} (Turn.spent e p) d h = no_gradient _ (refl, omega (arith, leb-true))
meets {b} (Turn.small e p q) d h = no_gradient _ (Tested.on_go_on refl (omega (arith, leb-false)), q)
meets {b} (Turn.level e p q k) d h = no_gradient _ (refl, omega (arith, leb-false), q, k)
meets {b} (Turn.onward e p q k) d h =
    let steep : Steep b = record { some = in_phase_lem b h e; steep = q; falling = λ _. k; left = omega (arith, leb-false); within = h.values } in
    descend_leads (descends Reply.go_on false) b (steep, λ f. absurd (false≢true f))
meets {b} (Turn.stops e) d h = no_gradient _ refl
meets {b} (Turn.fails e) d h = no_gradient _ refl
meets (Turn.unmoved r c e) d h = absurd (false≢true (sym e ∙ d))

stands : (s : Setup) (rs : List Reply) → Accepted s → Due s rs → Stands (run s rs)
unfolding run begin
stands s [] a d =
    let l = accepted_in_limits s a in
    record {
      completes = false;
      last = Reply.failure;
      told = record { none = refl; first = refl; left = l.maxiter.0; within = l.maxfev.0 };
      iterations = omega arith;
      values = l.maxfev.0;
    }
stands s (r ∷ rs) a d =
    let l = limits_stay s (r ∷ rs) d in
    record {
      completes = completes_gradient (run s rs) r;
      last = r;
      told = (meets (turn (run s rs) r) (due_taken (run s rs) r d.0) (stands s rs a d.1)).told;
      iterations = omega (arith, nit_within_budget s (r ∷ rs) a d, ap (λ (k : Limits). k.maxiter) l);
      values = omega (arith, nfev_within_budget s (r ∷ rs) a d, ap (λ (k : Limits). k.maxfev) l);
    }

-- ---- the other way: what a due reply in a situation leads to

-- where go on leads, by the tests in their order
abbrev ordered : Bool → Bool → Bool → Machine → Machine
ordered spent small level m =
    cond spent (ending Termination.max_iterations m) (cond small (ending Termination.gtol m) (cond level (ending Termination.ftol m) (descend m)))

abbrev at_budget : Machine → Bool
at_budget m = eqb m.counters.nit m.limits.maxiter

below_budget : (m : Machine) → m.counters.nit < m.limits.maxiter → at_budget m ≡ false
below_budget m l = ne_eqb m.counters.nit m.limits.maxiter (λ (e : m.counters.nit ≡ m.limits.maxiter). omega arith)

unspent : (m : Machine) → iterations_spent m.limits m.counters ≡ false → at_budget m ≡ false
unspent m p = below_budget m (omega (arith, leb-false))

-- go on leaves what the tests look at
abbrev Same : Machine → Machine → Type 0
Same b m = (at_budget m ≡ at_budget b) × (gradient_small m ≡ gradient_small b) × (decrease_small m ≡ decrease_small b)

descends_same : (b : Machine) → Descends (Same b) (Same b)
unfolding gradient_small decrease_small
descends_same b = record { bare = λ m h. h; headed = λ m e h q. h; begun = λ m r h e. h; failed = λ m h. h; spent = λ m h e. h; asked = λ m h e. h }

-- a due reply, and the step that it makes
record Taken (b : Machine) (r : Reply) (c : Bool) (m : Machine) : Type 0 where
  step : Turn b r c m
  due : takes b r ≡ true
  iterations : b.counters.nit ≤ b.limits.maxiter

same : {b : Machine} {c : Bool} {m : Machine} → Turn b Reply.go_on c m → Same b m
unfolding gradient_small decrease_small
same (Turn.spent e p) = (refl, refl, refl)
same (Turn.small e p q) = (refl, refl, refl)
same (Turn.level e p q k) = (refl, refl, refl)
same {b} (Turn.onward e p q k) = descend_leads (descends_same b) b (refl, refl, refl)
same (Turn.unmoved r c e) = (refl, refl, refl)

go_on_leads :
    {b : Machine} {c : Bool} {m : Machine} → Turn b Reply.go_on c m → takes b Reply.go_on ≡ true → b.counters.nit ≤ b.limits.maxiter
    → m ≡ ordered (at_budget b) (gradient_small b) (decrease_small b) b
go_on_leads {b} (Turn.spent e p) d h = rw (eq-eqb b.counters.nit b.limits.maxiter (omega (arith, leb-true)))
go_on_leads {b} (Turn.small e p q) d h = rw (unspent b p, q)
go_on_leads {b} (Turn.level e p q k) d h = rw (unspent b p, q, k)
go_on_leads {b} (Turn.onward e p q k) d h = rw (unspent b p, q, k)
go_on_leads (Turn.unmoved r c e) d h = absurd (false≢true (sym e ∙ d))

stop_leads : {b : Machine} {c : Bool} {m : Machine} → Turn b Reply.stop c m → takes b Reply.stop ≡ true → m ≡ ending Termination.cancelled b
stop_leads (Turn.stops e) d = refl
stop_leads (Turn.unmoved r c e) d = absurd (false≢true (sym e ∙ d))

failure_leads : {b : Machine} {c : Bool} {m : Machine} → Turn b Reply.failure c m → takes b Reply.failure ≡ true → m ≡ ending Termination.objective_failed b
failure_leads (Turn.fails e) d = refl
failure_leads (Turn.unmoved r c e) d = absurd (false≢true (sym e ∙ d))

value_leads :
    (v : ℕ) {b : Machine} {c : Bool} {m : Machine} → Turn b (Reply.value v) c m → takes b (Reply.value v) ≡ true → finite (to_float v) ≡ false
    → m.phase ≡ Phase.ended Termination.nonfinite
value_leads v (Turn.value w u e q) d f = absurd (true≢false (sym q ∙ f))
value_leads v (Turn.nonfinite w u e q) d f = refl
value_leads v (Turn.probe w i side u e q) d f = absurd (true≢false (sym q ∙ f))
value_leads v (Turn.nonfinite_probe w i side u e q) d f = refl
value_leads v (Turn.unmoved r c e) d f = absurd (false≢true (sym e ∙ d))

phase_of_lem : {t : Termination} (m b : Machine) → m ≡ ending t b → m.phase ≡ Phase.ended t
phase_of_lem m b e = ap (λ (x : Machine). x.phase) e

module _ {b : Machine} {c : Bool} {m : Machine} where
  as_reply : {r q : Reply} → Taken b r c m → r ≡ q → Taken b q c m
  as_reply k e = subst (λ (r : Reply). Taken b r c m) e k

  -- go on, by the tests of the machine after it
  go_on_at : Taken b Reply.go_on c m → m ≡ ordered (at_budget m) (gradient_small m) (decrease_small m) b
  go_on_at k =
      let s = same k.step in
      rw (s.0, s.1, s.2) (go_on_leads k.step k.due k.iterations)

  tested_ends : {r : Reply} → Taken b r c m → Meets r c m → Tested c r m → gradient_small m ≡ true → m.phase ≡ Phase.ended Termination.gtol
  tested_ends k h (Tested.on_go_on e l) q = phase_of_lem m b (go_on_at (as_reply k e) ∙ rw (below_budget m l, q))
  tested_ends k h (Tested.at_start e j f) q = h.first e f j q

  number_ends : {r : Reply} → Taken b r c m → Meets r c m → Nonfinite c r m → m.phase ≡ Phase.ended Termination.nonfinite
  number_ends k h (Nonfinite.value v e f) = let k' = as_reply k e in value_leads v k'.step k'.due f
  number_ends k h (Nonfinite.gradient e f) = h.nonfinite e f

  ends : {r : Reply} (t : Termination) → exact t ≡ true → Taken b r c m → Meets r c m → Situation t c r m → m.phase ≡ Phase.ended t
  ends Termination.gtol x k h s = tested_ends k h s.0 s.1
  ends Termination.ftol x k h s = phase_of_lem m b (go_on_at (as_reply k s.0) ∙ rw (below_budget m s.1, s.2, s.3))
  ends Termination.max_iterations x k h s = phase_of_lem m b (go_on_at (as_reply k s.0) ∙ rw (eq-eqb m.counters.nit m.limits.maxiter s.1))
  ends Termination.max_evaluations x k h s = absurd (false≢true x)
  ends Termination.cancelled x k h s = let k' = as_reply k s in phase_of_lem m b (stop_leads k'.step k'.due)
  ends Termination.nonfinite x k h s = number_ends k h s
  ends Termination.line_search_failed x k h s = absurd (false≢true x)
  ends Termination.objective_failed x k h s = let k' = as_reply k s in phase_of_lem m b (failure_leads k'.step k'.due)

-- ---- the theorems

module _ (s : Setup) (r : Reply) (rs : List Reply) (accepted : Accepted s) (due : Due s (r ∷ rs)) where
  taken : Taken (run s rs) r (completes_gradient (run s rs) r) (run s (r ∷ rs))
  unfolding run
  taken = record { step = turn (run s rs) r; due = due_taken (run s rs) r due.0; iterations = (stands s rs accepted due.1).iterations }

  met : Meets r (completes_gradient (run s rs) r) (run s (r ∷ rs))
  met = meets taken.step taken.due (stands s rs accepted due.1)

  -- a fit that ended with a status is in the situation that the status names
  pub status_means : (t : Termination) → (run s (r ∷ rs)).phase ≡ Phase.ended t → Situation t (completes_gradient (run s rs) r) r (run s (r ∷ rs))
  status_means t e = subst (Told (completes_gradient (run s rs) r) r (run s (r ∷ rs))) e met.told

  -- and a fit in that situation has ended so, but for the two statuses that hang on what the search wants
  pub situation_ends :
      (t : Termination) → exact t ≡ true → Situation t (completes_gradient (run s rs) r) r (run s (r ∷ rs)) → (run s (r ∷ rs)).phase ≡ Phase.ended t
  situation_ends t x h = ends t x taken met h

  -- so a fit that ended is in the situation of no other status, those two aside
  pub one_situation :
      (t u : Termination) → (run s (r ∷ rs)).phase ≡ Phase.ended t → exact u ≡ true
      → Situation u (completes_gradient (run s rs) r) r (run s (r ∷ rs)) → u ≡ t
  one_situation t u e x h = let q = situation_ends u x h in cc

-- go on at a notice: the iteration budget, then the gradient, then the decrease; then the next search
pub order_at_notice :
    (s : Setup) (rs : List Reply) → Accepted s → Due s rs → (run s rs).phase ≡ Phase.notice
    → run s (Reply.go_on ∷ rs)
    ≡ cond (eqb (run s rs).counters.nit (limits_of s).maxiter) (ending Termination.max_iterations (run s rs))
    (cond (gradient_small (run s rs)) (ending Termination.gtol (run s rs))
    (cond (decrease_small (run s rs)) (ending Termination.ftol (run s rs))
    (descend (run s rs))))
unfolding run
order_at_notice s rs a d e =
    let m = run s rs in
    subst (λ (l : Limits). answer m Reply.go_on ≡ ordered (eqb m.counters.nit l.maxiter) (gradient_small m) (decrease_small m) m) (limits_stay s rs d)
    (go_on_leads (turn m Reply.go_on) (ap (λ (p : Phase). suits (kind_of p) Reply.go_on) e) (stands s rs a d).iterations)
