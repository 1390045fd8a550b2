-- The counts: each step of the machine raises at most one question, and counts it. From that, by induction on the replies, nfev and nit are the
-- replies and the open question, njev the gradients completed, nfev and nit within their budgets; and, accepted or not, no count is above the number
-- of replies by more than one. Assumes nothing.
use Prim.Native.Nat.{ℕ, ◌+◌, ◌≤◌}
use native.Mathlib.Omega.{arith}
use mathlib.Core.Path.{◌≡◌, refl, sym, ap, ◌∙◌}
use mathlib.Core.Bool.{Bool, true, false, cond, false≢true}
use mathlib.Core.List.{List, [], ◌∷◌, map}
use lib.Dec.{eqb}
use lib.ListN.{length}
use lib.Ieee.{Float}
use borrow.Author.Tests.{ltb-true, leb-false, eqb-true}
use Rattle.definition.specs.Number.{to_float}
use Rattle.definition.specs.Vector.{zeros}
use Rattle.definition.specs.Problem.{Setup, Terms, Limits, terms_of, limits_of}
use Rattle.definition.specs.Counters.{Termination, Counters, value_left}
use Rattle.definition.specs.Gradient.{probes_at}
use Rattle.definition.specs.Machine.{Reply, Place, Phase, Machine, is_value, is_gradient, is_notice, is_failure, in_phase, ending, kind_of, suits, takes}
use Rattle.definition.specs.Driver.{with_gradient, valued, learn, move, begin, run}
use Rattle.definition.specs.Replies.{Accepted, Due, count_of, open_of}
use Rattle.definition.specs.Facts.{failed_of, unprobed_from, last_asked, completes_gradient, gradients_completed, Counted}
use Rattle.definition.proofs.Accepted.{accepted_in_limits, due_taken}
use Rattle.definition.proofs.Turns.{Turn, turn, asking, gathered, started, Descends, descend_leads, Gathers, complete_leads, from_leads, probed_leads}

-- ---- what one step counts

-- between two questions, from the machine b: j gradients completed, nothing else counted
record KeptIn (b : Machine) (j : ℕ) (t : Terms) (l : Limits) (k : Counters) : Type 0 where
  terms : t ≡ b.terms
  limits : l ≡ b.limits
  values : k.nfev ≡ b.counters.nfev
  notices : k.nit ≡ b.counters.nit
  completed : k.njev ≡ b.counters.njev + j

abbrev Kept : Machine → ℕ → Machine → Type 0
Kept b j m = KeptIn b j m.terms m.limits m.counters

kept : (b : Machine) → Kept b 0 b
kept b = record { terms = refl; limits = refl; values = refl; notices = refl; completed = omega arith }

-- at the next question, or the end: what is open was counted; it asks at most g gradients
record Charged (b : Machine) (g j : ℕ) (m : Machine) : Type 0 where
  values : m.counters.nfev ≡ b.counters.nfev + open_of 1 m
  notices : m.counters.nit ≡ b.counters.nit + open_of 3 m
  gradients : open_of 2 m ≤ g
  completed : m.counters.njev ≡ b.counters.njev + j
  within : b.counters.nfev ≤ b.limits.maxfev → m.counters.nfev ≤ b.limits.maxfev

record Raised (b : Machine) (g j : ℕ) (m : Machine) : Type 0 where
  terms : m.terms ≡ b.terms
  limits : m.limits ≡ b.limits
  charged : Charged b g j m

module _ {b : Machine} (g : ℕ) {j : ℕ} where
  raised_ended : (t : Termination) (m : Machine) → Kept b j m → Raised b g j (ending t m)
  raised_ended t m h = record { terms = h.terms; limits = h.limits; charged = omega arith }

  raised_asked : (p : Phase) (m : Machine) → kind_of p ≡ 1 → Kept b j m → value_left m.limits m.counters ≡ true → Raised b g j (asking p m)
  raised_asked p m e h left =
      let asks : (k : ℕ) → open_of k (asking p m) ≡ cond (eqb 1 k) 1 0 = λ k. ap (λ (i : ℕ). cond (eqb i k) 1 0) e in
      let budget = ap (λ (l : Limits). l.maxfev) h.limits in
      record { terms = h.terms; limits = h.limits; charged = omega (arith, asks 1, asks 2, asks 3, ltb-true, budget) }

  raised_moved : (m : Machine) → Kept b j m → Raised b g j (move (learn m))
  unfolding move learn
  raised_moved m h = record { terms = h.terms; limits = h.limits; charged = omega arith }

  descends : Descends (Kept b j) (Raised b g j)
  descends = record {
    bare = λ m h. h;
    headed = λ m e h q. h;
    begun = λ m r h e. h;
    failed = λ m h. raised_ended Termination.line_search_failed m h;
    spent = λ m h e. raised_ended Termination.max_evaluations m h;
    asked = λ m h e. raised_asked (Phase.value Place.trial) m refl h e;
  }

one_more_lem : {b : Machine} (m : Machine) → Kept b 0 m → Kept b 1 (gathered m)
one_more_lem m h = record { terms = h.terms; limits = h.limits; values = h.values; notices = h.notices; completed = omega arith }

gathers : (b : Machine) (g : ℕ) → Gathers (λ w. Kept b 0) (Kept b 1) (λ c. Raised b g (cond c 1 0))
gathers b g = record {
  descends = descends g;
  component = λ w i v m h. h;
  right = λ w v m h. h;
  probed = λ w i side m h e. raised_asked g (Phase.probe w i side) m refl h e;
  spent = λ w m h e. raised_ended g Termination.max_evaluations m h;
  nonfinite = λ w m h e. raised_ended g Termination.nonfinite (gathered m) (one_more_lem m h);
  small = λ m h e q. raised_ended g Termination.gtol (started m) (one_more_lem m h);
  steep = λ m h e q. one_more_lem m h;
  tried = λ m h e. one_more_lem m h;
  again = λ m r h e q. one_more_lem m h;
  moved = λ m h e q. raised_moved g (gathered m) (one_more_lem m h);
}

-- ---- what one reply does to the counts

-- the reply answers the question that was open, or fails it
record Replied (kind : ℕ) (r : Reply) : Type 0 where
  value : cond (eqb kind 1) 1 0 ≡ cond (is_value r) 1 0 + cond (is_failure r) (cond (eqb kind 1) 1 0) 0
  gradient : cond (eqb kind 2) 1 0 ≡ cond (is_gradient r) 1 0 + cond (is_failure r) (cond (eqb kind 2) 1 0) 0
  notice : cond (eqb kind 3) 1 0 ≡ cond (is_notice r) 1 0 + cond (is_failure r) (cond (eqb kind 3) 1 0) 0

replied : (kind : ℕ) (r : Reply) → suits kind r ≡ true → Replied kind r
replied kind (Reply.value v) e = rw (eqb-true kind 1 e) (record { value = refl; gradient = refl; notice = refl })
replied kind (Reply.gradient ws) e = rw (eqb-true kind 2 e) (record { value = refl; gradient = refl; notice = refl })
replied kind Reply.not_supplied e = rw (eqb-true kind 2 e) (record { value = refl; gradient = refl; notice = refl })
replied kind Reply.go_on e = rw (eqb-true kind 3 e) (record { value = refl; gradient = refl; notice = refl })
replied kind Reply.stop e = rw (eqb-true kind 3 e) (record { value = refl; gradient = refl; notice = refl })
replied kind Reply.failure e = record { value = omega arith; gradient = omega arith; notice = omega arith }

-- 1 where a phase asks a question of this kind
abbrev pub opens : ℕ → Phase → ℕ
opens kind p = cond (eqb (kind_of p) kind) 1 0

-- while a value or a gradient is asked, an iteration is left
abbrev Room : Machine → Type 0
Room m = m.counters.nit + open_of 1 m + open_of 2 m ≤ m.limits.maxiter

one_open : (p : Phase) → opens 1 p + opens 2 p + opens 3 p ≤ 1
one_open (Phase.value w) = omega arith
one_open (Phase.gradient w) = omega arith
one_open (Phase.probe w i side) = omega arith
one_open Phase.notice = omega arith
one_open (Phase.ended t) = omega arith

record Answered (b : Machine) (r : Reply) (c : Bool) (m : Machine) : Type 0 where
  raised : Raised b (cond (is_value r) 1 0) (cond c 1 0) m
  room : Room b → Room m

valued_kept : (w : Place) (v : Float) (m : Machine) → Kept m 0 (valued w v m)
valued_kept Place.start v m = kept m
valued_kept Place.trial v m = kept m

answered_ended : {b : Machine} (r : Reply) (t : Termination) (m : Machine) → Kept b 0 m → Answered b r false (ending t m)
answered_ended r t m h = record {
  raised = raised_ended (cond (is_value r) 1 0) t m h;
  room = λ o. omega (arith, ap (λ (l : Limits). l.maxiter) h.limits);
}

-- on with an iteration left
answered_on :
    {b : Machine} {r : Reply} (c : Bool) {m : Machine} → Raised b (cond (is_value r) 1 0) (cond c 1 0) m
    → (Room b → b.counters.nit + 1 ≤ b.limits.maxiter) → Answered b r c m
answered_on c {m} h left = record {
  raised = h;
  room = λ o. omega (arith, left o, h.charged.notices, one_open m.phase, ap (λ (l : Limits). l.maxiter) h.limits);
}

left_in : (b : Machine) {p : Phase} → b.phase ≡ p → opens 1 p + opens 2 p ≡ 1 → Room b → b.counters.nit + 1 ≤ b.limits.maxiter
left_in b e one o = omega (arith, ap (opens 1) e, ap (opens 2) e)

raised_gradient : {b : Machine} (w : Place) (m : Machine) → Kept b 0 m → Raised b 1 0 (in_phase (Phase.gradient w) m)
raised_gradient w m h = record { terms = h.terms; limits = h.limits; charged = omega arith }

answered : {b : Machine} {r : Reply} {c : Bool} {m : Machine} → Turn b r c m → takes b r ≡ true → Answered b r c m
answered {b} (Turn.value w v e q) d = answered_on false (raised_gradient w (valued w (to_float v) b) (valued_kept w (to_float v) b)) (left_in b e refl)
answered {b} (Turn.nonfinite w v e q) d = answered_ended (Reply.value v) Termination.nonfinite (valued w (to_float v) b) (valued_kept w (to_float v) b)
answered {b} (Turn.probe w i side v e q) d =
    answered_on (last_asked b (Phase.probe w i side))
    (probed_leads (gathers b 1) w i (probes_at b.terms b.trial.x i) side (to_float v) b (kept b)) (left_in b e refl)
answered {b} (Turn.nonfinite_probe w i side v e q) d = answered_ended (Reply.value v) Termination.nonfinite b (kept b)
answered {b} (Turn.supplied w ws e) d = answered_on true (complete_leads (gathers b 0) w (with_gradient (map to_float ws) b) (kept b)) (left_in b e refl)
answered {b} (Turn.differenced w e) d =
    let m = with_gradient (zeros b.terms.n) b in
    answered_on (unprobed_from b.terms.n b.terms b.trial.x 0) (from_leads (gathers b 0) b.terms.n w 0 m (kept b)) (left_in b e refl)
answered {b} (Turn.spent e p) d = answered_ended Reply.go_on Termination.max_iterations b (kept b)
answered {b} (Turn.small e p q) d = answered_ended Reply.go_on Termination.gtol b (kept b)
answered {b} (Turn.level e p q k) d = answered_ended Reply.go_on Termination.ftol b (kept b)
answered {b} (Turn.onward e p q k) d =
    answered_on false (descend_leads (descends 0) b (kept b)) (λ _. omega (arith, leb-false))
answered {b} (Turn.stops e) d = answered_ended Reply.stop Termination.cancelled b (kept b)
answered {b} (Turn.fails e) d = answered_ended Reply.failure Termination.objective_failed b (kept b)
answered (Turn.unmoved r c e) d = absurd (false≢true (sym e ∙ d))

-- ---- the counts after every reply

module _ (s : Setup) where
  stay : (rs : List Reply) → Due s rs → ((run s rs).terms ≡ terms_of s) × ((run s rs).limits ≡ limits_of s)
  unfolding run begin
  stay [] d = (refl, refl)
  stay (r ∷ rs) d =
      let h = stay rs d.1 in
      let n = (answered (turn (run s rs) r) (due_taken (run s rs) r d.0)).raised in
      (n.terms ∙ h.0, n.limits ∙ h.1)

  pub terms_stay : (rs : List Reply) → Due s rs → (run s rs).terms ≡ terms_of s
  terms_stay rs d = (stay rs d).0

  pub limits_stay : (rs : List Reply) → Due s rs → (run s rs).limits ≡ limits_of s
  limits_stay rs d = (stay rs d).1

-- each reply raises each count by at most one, whether or not the setup is accepted
pub record Few (most : ℕ) (k : Counters) : Type 0 where
  pub nit : k.nit ≤ most
  pub nfev : k.nfev ≤ most + 1
  pub njev : k.njev ≤ most

one_most : (b : Bool) → cond b 1 0 ≤ 1
one_most true = omega arith
one_most false = omega arith

pub counts_few : (s : Setup) (rs : List Reply) → Due s rs → Few (length rs) (run s rs).counters
unfolding run begin
counts_few s [] d = omega arith
counts_few s (r ∷ rs) d =
    let m = run s rs in
    let n = (answered (turn m r) (due_taken m r d.0)).raised.charged in
    omega (arith, counts_few s rs d.1, n, one_open (run s (r ∷ rs)).phase, one_most (completes_gradient m r))

record Tally (s : Setup) (rs : List Reply) : Type 0 where
  counted : Counted s rs
  room : Room (run s rs)

tally : (s : Setup) (rs : List Reply) → Accepted s → Due s rs → Tally s rs
unfolding run begin count_of failed_of gradients_completed
tally s [] a d = let l = accepted_in_limits s a in record { counted = omega arith; room = l.maxiter.0 }
tally s (r ∷ rs) a d =
    let m = run s rs in
    let h = tally s rs a d.1 in
    let taken = due_taken m r d.0 in
    let o = answered (turn m r) taken in
    let n = o.raised.charged in
    let q = replied (kind_of m.phase) r taken in
    let budget = ap (λ (l : Limits). l.maxfev) (limits_stay s rs d.1) in
    let iterations = ap (λ (l : Limits). l.maxiter) (limits_stay s (r ∷ rs) d) in
    let within = n.within (omega (arith, h.counted.value_budget, budget)) in
    let room = o.room h.room in
    record { counted = omega arith; room = room }

pub counted : (s : Setup) (rs : List Reply) → Accepted s → Due s rs → Counted s rs
counted s rs a d = (tally s rs a d).counted

-- every failure came in place of a reply
failed_open : (p : Phase) → suits (kind_of p) Reply.failure ≡ true → opens 1 p + opens 2 p + opens 3 p ≡ 1
failed_open (Phase.value w) e = refl
failed_open (Phase.gradient w) e = refl
failed_open (Phase.probe w i side) e = refl
failed_open Phase.notice e = refl
failed_open (Phase.ended t) e = absurd (false≢true e)

failure_open :
    (m : Machine) (r : Reply) → takes m r ≡ true
    → cond (is_failure r) 1 0 ≡ cond (is_failure r) (open_of 1 m) 0 + cond (is_failure r) (open_of 2 m) 0 + cond (is_failure r) (open_of 3 m) 0
failure_open m (Reply.value v) e = refl
failure_open m (Reply.gradient ws) e = refl
failure_open m Reply.not_supplied e = refl
failure_open m Reply.go_on e = refl
failure_open m Reply.stop e = refl
failure_open m Reply.failure e = omega (arith, failed_open m.phase e)

pub failures : (s : Setup) (rs : List Reply) → Due s rs → count_of is_failure rs ≡ failed_of 1 s rs + failed_of 2 s rs + failed_of 3 s rs
unfolding count_of failed_of
failures s [] d = refl
failures s (r ∷ rs) d = omega (arith, failures s rs d.1, failure_open (run s rs) r (due_taken (run s rs) r d.0))

-- ---- the theorems

module _ (s : Setup) (rs : List Reply) (accepted : Accepted s) (due : Due s rs) where
  pub nfev_counts_values : count_of is_failure rs ≡ 0 → (run s rs).counters.nfev ≡ count_of is_value rs + open_of 1 (run s rs)
  nfev_counts_values e = omega (arith, (counted s rs accepted due).values, failures s rs due)

  pub nit_counts_notices : count_of is_failure rs ≡ 0 → (run s rs).counters.nit ≡ count_of is_notice rs + open_of 3 (run s rs)
  nit_counts_notices e = omega (arith, (counted s rs accepted due).notices, failures s rs due)

  pub njev_counts_gradients : (run s rs).counters.njev ≡ gradients_completed s rs
  njev_counts_gradients = (counted s rs accepted due).completed

  pub nfev_within_budget : (run s rs).counters.nfev ≤ (limits_of s).maxfev
  nfev_within_budget = (counted s rs accepted due).value_budget

  pub nit_within_budget : (run s rs).counters.nit ≤ (limits_of s).maxiter
  nit_within_budget = (counted s rs accepted due).notice_budget
