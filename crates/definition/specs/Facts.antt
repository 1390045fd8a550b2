-- The words of the theorems on a fit, for an accepted setup and replies that were due. Lists of replies stand newest first.
use Rattle.std.specs.Prelude.{ℕ, zero, suc, ◌+◌, ◌-◌, ◌≤◌, ◌<◌, ◌≡◌, Bool, true, false, not, cond, ◌&&◌, ◌||◌, List, [], ◌∷◌, eqb, length, Float}
use Rattle.std.specs.Float.Ieee.Scale.{finite}
use Rattle.definition.specs.Number.{to_float}
use Rattle.definition.specs.Vector.{all_finite}
use Rattle.definition.specs.Problem.{Setup, Terms, dimension, maxcor_of, bounds_of, limits_of, most_coordinates, most_pairs, most_budget}
use Rattle.definition.specs.Compact.{Pair}
use Rattle.definition.specs.Counters.{Termination, status_number}
use Rattle.definition.specs.Gradient.{Probes, probes_at}
use Rattle.definition.specs.Search.{search_trials}
use Rattle.definition.specs.Machine.{Reply, State, Side, Phase, Machine, reply_kind, first_word, is_value, is_gradient, is_notice, is_failure}
use Rattle.definition.specs.Driver.{run, gradient_small, decrease_small}
use Rattle.definition.specs.Replies.{count_of, open_of}
use Rattle.definition.specs.Values.{Each}

-- ---- counts

-- the failures that came in place of a reply to a question of this kind
unfoldable pub failed_of : ℕ → Setup → List Reply → ℕ
failed_of kind s [] = 0
failed_of kind s (r ∷ rs) = failed_of kind s rs + cond (is_failure r) (open_of kind (run s rs)) 0

-- nothing is probed of a coordinate
abbrev pub unprobed : Probes → Bool
unprobed Probes.neither = true
unprobed (Probes.both r l) = false
unprobed (Probes.right_only r) = false
unprobed (Probes.left_only l) = false

-- nothing is probed of coordinate i and of those after it, `more` in all
unfoldable pub unprobed_from : ℕ → Terms → List Float → ℕ → Bool
unprobed_from zero t x i = true
unprobed_from (suc more) t x i = unprobed (probes_at t x i) && unprobed_from more t x (i + 1)

-- the last probe of its coordinate: the right one of two is not
abbrev pub last_probe : Probes → Side → Bool
last_probe Probes.neither side = true
last_probe (Probes.both r l) Side.right = false
last_probe (Probes.both r l) Side.left = true
last_probe (Probes.right_only r) side = true
last_probe (Probes.left_only l) side = true

-- the open question is the last probe of all
abbrev pub last_asked : Machine → Phase → Bool
last_asked m (Phase.value w) = false
last_asked m (Phase.gradient w) = false
last_asked m (Phase.probe w i side) =
    last_probe (probes_at m.terms m.trial.x i) side && unprobed_from (m.terms.n - (i + 1)) m.terms m.trial.x (i + 1)
last_asked m Phase.notice = false
last_asked m (Phase.ended t) = false

-- the reply, given to the machine m in its phase, completes a gradient:
-- a finite value at the last probe, a gradient, or not supplied where nothing is probed
abbrev pub completes_in : Machine → Phase → Reply → Bool
completes_in m p r =
    cond (is_value r) (finite (to_float (first_word r)) && last_asked m p)
    (cond (eqb (reply_kind r) 3) (unprobed_from m.terms.n m.terms m.trial.x 0) (eqb (reply_kind r) 2))

abbrev pub completes_gradient : Machine → Reply → Bool
completes_gradient m r = completes_in m m.phase r

unfoldable pub gradients_completed : Setup → List Reply → ℕ
gradients_completed s [] = 0
gradients_completed s (r ∷ rs) = gradients_completed s rs + cond (completes_gradient (run s rs) r) 1 0

pub record Counted (s : Setup) (rs : List Reply) : Type 0 where
  -- every value question is replied to, failed or open; so is every notice
  pub values : (run s rs).counters.nfev ≡ count_of is_value rs + failed_of 1 s rs + open_of 1 (run s rs)
  pub notices : (run s rs).counters.nit ≡ count_of is_notice rs + failed_of 3 s rs + open_of 3 (run s rs)
  -- a gradient is asked at most once for each value
  pub gradients : count_of is_gradient rs + failed_of 2 s rs + open_of 2 (run s rs) ≤ count_of is_value rs
  pub completed : (run s rs).counters.njev ≡ gradients_completed s rs
  pub value_budget : (run s rs).counters.nfev ≤ (limits_of s).maxfev
  pub notice_budget : (run s rs).counters.nit ≤ (limits_of s).maxiter

-- ---- statuses: r is the last reply, c says whether it completes a gradient, m is the machine after it

-- the gradient at the point asked about has finite components only
abbrev pub gradient_finite : Machine → Bool
gradient_finite m = all_finite m.terms.n m.trial.g

-- convergence of the gradient is tested: on go on with an iteration left, and when the first gradient is complete
pub data Tested (c : Bool) (r : Reply) (m : Machine) : Type 0 where
  on_go_on : r ≡ Reply.go_on → m.counters.nit < m.limits.maxiter → Tested c r m
  at_start : c ≡ true → m.counters.njev ≡ 1 → gradient_finite m ≡ true → Tested c r m

-- a value that is not finite, or a gradient just completed that has such a component
pub data Nonfinite (c : Bool) (r : Reply) (m : Machine) : Type 0 where
  value : (v : ℕ) → r ≡ Reply.value v → finite (to_float v) ≡ false → Nonfinite c r m
  gradient : c ≡ true → gradient_finite m ≡ false → Nonfinite c r m

-- the situation that a status names
abbrev pub Situation : Termination → Bool → Reply → Machine → Type 0
Situation Termination.gtol c r m = Tested c r m × (gradient_small m ≡ true)
Situation Termination.ftol c r m = (r ≡ Reply.go_on) × (m.counters.nit < m.limits.maxiter) × (gradient_small m ≡ false) × (decrease_small m ≡ true)
Situation Termination.max_iterations c r m = (r ≡ Reply.go_on) × (m.counters.nit ≡ m.limits.maxiter)
Situation Termination.max_evaluations c r m = (m.counters.nfev ≡ m.limits.maxfev) × (m.counters.nit < m.limits.maxiter)
Situation Termination.cancelled c r m = r ≡ Reply.stop
Situation Termination.nonfinite c r m = Nonfinite c r m
Situation Termination.line_search_failed c r m =
    (gradient_small m ≡ false) × (m.counters.nit < m.limits.maxiter) × (1 ≤ m.counters.nit → decrease_small m ≡ false)
Situation Termination.objective_failed c r m = r ≡ Reply.failure

-- the statuses that come whenever their situation does, all but 4 and 7: a fit at its last value need not want another, and a search may find its step
abbrev pub exact : Termination → Bool
exact t = not (eqb (status_number t) 4 || eqb (status_number t) 7)

-- ---- sizes

-- what an accepted setup keeps to
pub record InLimits (s : Setup) : Type 0 where
  pub coordinates : (1 ≤ dimension s) × (dimension s ≤ most_coordinates)
  pub pairs : (1 ≤ maxcor_of s) × (maxcor_of s ≤ most_pairs)
  pub maxiter : (1 ≤ (limits_of s).maxiter) × ((limits_of s).maxiter ≤ most_budget)
  pub maxfev : (1 ≤ (limits_of s).maxfev) × ((limits_of s).maxfev ≤ most_budget)
  pub lower : length (bounds_of s).lower ≡ dimension s
  pub upper : length (bounds_of s).upper ≡ dimension s

-- a point with its gradient, and a pair, of n words each
abbrev pub StateSized : ℕ → State → Type 0
StateSized n h = (length h.x ≡ n) × (length h.g ≡ n)

abbrev pub PairSized : ℕ → Pair → Type 0
PairSized n p = (length p.s ≡ n) × (length p.y ≡ n)

pub record PairsSized (n maxcor : ℕ) (pairs : List Pair) : Type 0 where
  pub few : length pairs ≤ maxcor
  pub words : Each (PairSized n) pairs

-- n words in every vector, at most maxcor pairs, at most 60 trials of a search
pub record SizedAs (n maxcor : ℕ) (held trial : State) (direction : List Float) (pairs : List Pair) (trials : ℕ) : Type 0 where
  pub held_words : StateSized n held
  pub trial_words : StateSized n trial
  pub direction_words : length direction ≡ n
  pub pair_words : PairsSized n maxcor pairs
  pub few_trials : trials ≤ search_trials

abbrev pub Sized : Setup → Machine → Type 0
Sized s m = SizedAs (dimension s) (maxcor_of s) m.held m.trial m.direction m.compact.pairs m.search.trials
