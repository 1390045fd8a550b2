-- What the words hold determines them: state whole, and of the area the vectors in use. Assumes nothing.
use Prim.Native.Nat.{ℕ, zero, suc, ◌<◌}
use native.Mathlib.Omega.{arith}
use mathlib.Core.Path.{◌≡◌, refl, sym, ap, ◌∙◌, subst}
use mathlib.Core.Bool.{Bool, true, false, cond}
use mathlib.Core.List.{List}
use Rattle.std.specs.Prelude.{Option, None, Some}
use lib.ListN.{length}
use lib.Ieee.{Float}
use Rattle.definition.specs.Number.{zero64}
use Rattle.definition.specs.Problem as P
use Rattle.definition.specs.Compact.{pair_of}
use Rattle.definition.specs.Counters as C
use Rattle.definition.specs.Book.{Book}
use Rattle.definition.specs.Machine as M
use Rattle.area.specs.Area.{view}
use Rattle.problem.specs.Setups.{scheme_of, bounds_in}
use Rattle.problem.specs.declared.Scheme.{Scheme}
use Rattle.problem.specs.declared.Scheme.TheVariants.{Forward, Central}
use Rattle.counters.specs.Counts.{termination_of}
use Rattle.counters.specs.declared.Termination.{Termination}
use Rattle.counters.specs.declared.Termination.TheVariants.{GTol, FTol, MaxIterations, MaxEvaluations, Cancelled, Nonfinite, LineSearchFailed, ObjectiveFailed}
use Rattle.search.specs.State.{Settled}
use Rattle.compact.specs.State.{pair_at}
use Rattle.compact.proofs.Laws.{pairs_count, pair_at_lem}
use Rattle.fit.specs.State.{place_of, side_of, phase_of}
use Rattle.fit.specs.declared.Fit.{Fit}
use Rattle.fit.specs.declared.Place.{Place}
use Rattle.fit.specs.declared.Place.TheVariants as W
use Rattle.fit.specs.declared.Side.{Side}
use Rattle.fit.specs.declared.Side.TheVariants.{Right, Left}
use Rattle.fit.specs.declared.Phase.{Phase}
use Rattle.fit.specs.declared.Phase.TheVariants.{Value, Gradient, Probe, Notice, Ended}
use Rattle.held.proofs.Test.{held_ready, held_marked, ready_facts}
use Rattle.lbfgsb.specs.Words.{Words, lengths, setup_of, machine_in, Stands}
use Rattle.lbfgsb.specs.Chain.{Agree}
use Rattle.lbfgsb.proofs.Areas.{InUse, each_word}

-- ---- enums of the code, back from the definition's

-- a reading that can be undone tells two values apart
apart : {A B : Type 0} (f : A → B) (g : B → A) → ((a : A) → g (f a) ≡ a) → (x y : A) → f x ≡ f y → x ≡ y
apart f g k x y e = sym (k x) ∙ ap g e ∙ k y

abbrev scheme_back : P.Scheme → Scheme
scheme_back P.Scheme.forward = Forward
scheme_back P.Scheme.central = Central

scheme_back_lem : (x : Scheme) → scheme_back (scheme_of x) ≡ x
scheme_back_lem Forward = refl
scheme_back_lem Central = refl

abbrev place_back : M.Place → Place
place_back M.Place.start = W.Start
place_back M.Place.trial = W.Trial

place_back_lem : (x : Place) → place_back (place_of x) ≡ x
place_back_lem W.Start = refl
place_back_lem W.Trial = refl

abbrev side_back : M.Side → Side
side_back M.Side.right = Right
side_back M.Side.left = Left

side_back_lem : (x : Side) → side_back (side_of x) ≡ x
side_back_lem Right = refl
side_back_lem Left = refl

abbrev termination_back : C.Termination → Termination
termination_back C.Termination.gtol = GTol
termination_back C.Termination.ftol = FTol
termination_back C.Termination.max_iterations = MaxIterations
termination_back C.Termination.max_evaluations = MaxEvaluations
termination_back C.Termination.cancelled = Cancelled
termination_back C.Termination.nonfinite = Nonfinite
termination_back C.Termination.line_search_failed = LineSearchFailed
termination_back C.Termination.objective_failed = ObjectiveFailed

termination_back_lem : (x : Termination) → termination_back (termination_of x) ≡ x
termination_back_lem GTol = refl
termination_back_lem FTol = refl
termination_back_lem MaxIterations = refl
termination_back_lem MaxEvaluations = refl
termination_back_lem Cancelled = refl
termination_back_lem Nonfinite = refl
termination_back_lem LineSearchFailed = refl
termination_back_lem ObjectiveFailed = refl

abbrev phase_back : M.Phase → Phase
phase_back (M.Phase.value w) = Value (place_back w)
phase_back (M.Phase.gradient w) = Gradient (place_back w)
phase_back (M.Phase.probe w i s) = Probe (place_back w) i (side_back s)
phase_back M.Phase.notice = Notice
phase_back (M.Phase.ended t) = Ended (termination_back t)

phase_back_lem : (x : Phase) → phase_back (phase_of x) ≡ x
phase_back_lem (Value w) = ap (λ (p : Place). Value p) (place_back_lem w)
phase_back_lem (Gradient w) = ap (λ (p : Place). Gradient p) (place_back_lem w)
phase_back_lem (Probe w i s) = ap (λ (p : Place). Probe p i (side_back (side_of s))) (place_back_lem w) ∙ ap (λ (p : Side). Probe w i p) (side_back_lem s)
phase_back_lem Notice = refl
phase_back_lem (Ended t) = ap (λ (p : Termination). Ended p) (termination_back_lem t)

-- whether there are bounds, and a high end

abbrev present : {A : Type 0} → Option A → Bool
present None = false
present (Some a) = true

bounds_present : (b : Bool) (l u : List Float) → present (bounds_in b l u) ≡ b
bounds_present true l u = refl
bounds_present false l u = refl

high_present : (b : Bool) (x : Float) → present (cond b (Some x) None) ≡ b
high_present true x = refl
high_present false x = refl

abbrev or_zero : Option Float → Float
or_zero None = zero64
or_zero (Some x) = x

high_back : (b : Bool) (x : Float) → (b ≡ false → x ≡ zero64) → or_zero (cond b (Some x) None) ≡ x
high_back true x h = refl
high_back false x h = sym (h refl)

-- ---- the parts of the state

module _ (w v : Words) (e : machine_in w ≡ machine_in v) where
  same_pairs : w.state.shape.pairs ≡ v.state.shape.pairs
  same_pairs =
      sym (pairs_count w.state.shape (view w.area w.state.shape.n))
      ∙ ap (λ (m : M.Machine). length m.compact.pairs) e
      ∙ pairs_count v.state.shape (view v.area v.state.shape.n)

  same_shape : w.state.shape ≡ v.state.shape
  same_shape = λ i. record { n = (e i).terms.n; m = (e i).terms.maxcor; pairs = same_pairs i; oldest = (e i).compact.oldest }

  same_limits : w.state.limits ≡ v.state.limits
  same_limits = λ i. record { ftol = (e i).limits.ftol; gtol = (e i).limits.gtol; maxiter = (e i).limits.maxiter; maxfev = (e i).limits.maxfev }

  same_counters : w.state.counters ≡ v.state.counters
  same_counters = λ i. record { nit = (e i).counters.nit; nfev = (e i).counters.nfev; njev = (e i).counters.njev }

  same_phase : w.state.phase ≡ v.state.phase
  same_phase = apart phase_of phase_back phase_back_lem w.state.phase v.state.phase (ap (λ (m : M.Machine). m.phase) e)

  same_bracketed : w.state.search.trials.bracketed ≡ v.state.search.trials.bracketed
  same_bracketed =
      sym (high_present w.state.search.trials.bracketed w.state.search.step.high)
      ∙ ap (λ (m : M.Machine). present m.search.high) e
      ∙ high_present v.state.search.trials.bracketed v.state.search.step.high

  same_trials : w.state.search.trials ≡ v.state.search.trials
  same_trials = λ i. record { count = (e i).search.trials; face = (e i).search.face; bracketed = same_bracketed i }

  same_high : Settled w.state.search → Settled v.state.search → w.state.search.step.high ≡ v.state.search.step.high
  same_high h k =
      sym (high_back w.state.search.trials.bracketed w.state.search.step.high h)
      ∙ ap (λ (m : M.Machine). or_zero m.search.high) e
      ∙ high_back v.state.search.trials.bracketed v.state.search.step.high k

  same_search : Settled w.state.search → Settled v.state.search → w.state.search ≡ v.state.search
  same_search h k =
      let high = same_high h k in
      λ i. record {
        step = record { alpha = (e i).search.alpha; low = (e i).search.low; high = high i; slope0 = (e i).search.slope0; amax = (e i).search.amax };
        trials = same_trials i;
      }

  -- a pair in use
  same_pair : (k : ℕ) → k < w.state.shape.pairs
      → pair_at w.state.shape (view w.area w.state.shape.n) k ≡ pair_at v.state.shape (view v.area v.state.shape.n) k
  same_pair k l =
      sym (pair_at_lem w.state.shape (view w.area w.state.shape.n) k l)
      ∙ ap (λ (m : M.Machine). pair_of m.compact.pairs k) e
      ∙ pair_at_lem v.state.shape (view v.area v.state.shape.n) k (subst (λ (x : ℕ). k < x) same_pairs l)

module _ (w v : Words) (d : setup_of w ≡ setup_of v) where
  same_bounded : w.state.options.bounded ≡ v.state.options.bounded
  same_bounded =
      sym (bounds_present w.state.options.bounded _ _)
      ∙ ap (λ (s : P.Setup). present s.bounds) d
      ∙ bounds_present v.state.options.bounded _ _

  same_options : w.state.options ≡ v.state.options
  same_options =
      let scheme = apart scheme_of scheme_back scheme_back_lem w.state.options.scheme v.state.options.scheme (ap (λ (s : P.Setup). s.scheme) d) in
      let maxiter = ap (λ (s : P.Setup). s.maxiter) d in
      let maxfev = ap (λ (s : P.Setup). s.maxfev) d in
      let maxcor = ap (λ (s : P.Setup). s.maxcor) d in
      let tol = ap (λ (s : P.Setup). s.tol) d in
      let ftol = ap (λ (s : P.Setup). s.ftol) d in
      let gtol = ap (λ (s : P.Setup). s.gtol) d in
      let eps = ap (λ (s : P.Setup). s.eps) d in
      λ i. record {
        bounded = same_bounded i;
        maxiter = maxiter i;
        maxfev = maxfev i;
        tol = tol i;
        ftol = ftol i;
        gtol = gtol i;
        maxcor = maxcor i;
        eps = eps i;
        scheme = scheme i;
      }

-- ---- the words

module _ {w v : Words} {b : Book} (h : Stands w b) (k : Stands v b) where
  same_machine : machine_in w ≡ machine_in v
  same_machine = h.is ∙ sym k.is

  same_setup : setup_of w ≡ setup_of v
  same_setup = h.setup ∙ sym k.setup

  same_extra : w.state.extra ≡ v.state.extra
  same_extra =
      let entries = h.entries ∙ sym k.entries in
      let words = h.words ∙ sym k.words in
      λ i. record { entries = entries i; words = words i }

  pub determined : w.state ≡ v.state
  determined =
      let e = same_machine in
      let shape = same_shape w v e in
      let options = same_options w v same_setup in
      let limits = same_limits w v e in
      let counters = same_counters w v e in
      let phase = same_phase w v e in
      let search = same_search w v e h.settled k.settled in
      let extra = same_extra in
      λ i. record {
        shape = shape i;
        options = options i;
        limits = limits i;
        counters = counters i;
        phase = phase i;
        search = search i;
        value = (e i).held.f;
        trial_value = (e i).trial.f;
        right_value = (e i).right_value;
        value_before = (e i).before;
        theta = (e i).compact.theta;
        extra = extra i;
      }

  -- the first eight vectors
  same_low : (q : ℕ) → q < 8 → view w.area w.state.shape.n q ≡ view v.area v.state.shape.n q
  same_low zero l = ap (λ (m : M.Machine). m.held.x) same_machine
  same_low (suc zero) l = ap (λ (m : M.Machine). m.held.g) same_machine
  same_low (suc (suc zero)) l = ap (λ (m : M.Machine). m.terms.bounds.lower) same_machine
  same_low (suc (suc (suc zero))) l = ap (λ (m : M.Machine). m.terms.bounds.upper) same_machine
  same_low (suc (suc (suc (suc zero)))) l = ap (λ (p : P.Setup). p.x0) same_setup
  same_low (suc (suc (suc (suc (suc zero))))) l = ap (λ (m : M.Machine). m.trial.x) same_machine
  same_low (suc (suc (suc (suc (suc (suc zero)))))) l = ap (λ (m : M.Machine). m.trial.g) same_machine
  same_low (suc (suc (suc (suc (suc (suc (suc zero))))))) l = ap (λ (m : M.Machine). m.direction) same_machine
  same_low (suc (suc (suc (suc (suc (suc (suc (suc q)))))))) l = absurd (omega (arith, l))

  in_use : InUse w.state.shape (view w.area w.state.shape.n) (view v.area w.state.shape.n)
  in_use =
      record {
        low = λ q l. same_low q l ∙ ap (λ (t : Fit). view v.area t.shape.n q) (sym determined);
        pairs = λ k l. same_pair w v same_machine k l ∙ ap (λ (t : Fit). pair_at t.shape (view v.area t.shape.n) k) (sym determined);
      }

  pub agree : lengths w ≡ lengths v → Agree w v
  agree l =
      let facts = ready_facts w.state (length w.area) (held_ready w.state w.area h.test) in
      record {
        state = determined;
        area = each_word w.state.shape w.area v.area facts.positive facts.ready.sound in_use;
        mark = (held_marked w.state w.area h.test, held_marked v.state v.area k.test);
        log = h.log ∙ sym k.log;
        sized = l;
      }
