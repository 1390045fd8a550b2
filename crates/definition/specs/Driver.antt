-- The steps of a fit, from question to question. The start counts as the first trial, held from the beginning.
-- Each function from machine to machine is one function of the code.
use Rattle.std.specs.Prelude.{ℕ, zero, suc, ◌+◌, ◌-◌, Bool, false, cond, List, [], ◌∷◌, map, eqb, set, Float}
use Rattle.std.specs.Prelude.{Option, None, Some}
use Rattle.std.specs.Float.Ieee as Ieee
use Rattle.std.specs.Float.Ieee.Scale.{finite}
use Rattle.definition.specs.Number.{minus, times, abs, min, max, to_float, zero64, one64}
use Rattle.definition.specs.Vector.{fold_to, word, zeros, dot, all_finite, difference, ◌and_then◌}
use Rattle.definition.specs.Problem.{Setup, Terms, Bounds, dimension, terms_of, limits_of, projected_start}
use Rattle.definition.specs.Compact.{Compact, no_pairs, count, update}
use Rattle.definition.specs.Geometry.{generalized_cauchy, primal_minimize}
use Rattle.definition.specs.Counters.{Termination, first_counters, value_left, iterations_spent, charge_value, charge_gradient, charge_iteration}
use Rattle.definition.specs.Gradient.{Probes, probes_at, both_quotient, right_quotient, left_quotient}
use Rattle.definition.specs.Search.{Search, Verdict, begin_search, trial_point, or_failed, judge}
use Rattle.definition.specs.Machine.{Reply, reply_kind, brought_words, first_word, is_value, is_failure, State, Place, Side, Phase, Machine, state}
use Rattle.definition.specs.Machine.{made, in_phase, counting, holding, trying, with_compact, heading, searching, with_right, ending}

-- a value question, unless the budget is spent
unfoldable pub ask_value : Phase → Machine → Machine
ask_value p m =
    cond (value_left m.limits m.counters) (in_phase p (counting (charge_value m.counters) m)) (ending Termination.max_evaluations m)

-- ---- convergence

abbrev pub projected : Bounds → State → ℕ → Float
projected b h i =
    cond (Ieee.lt zero64 (word h.g i))
    (min (word h.g i) (max (minus (word h.x i) (word b.lower i)) zero64))
    (min (Ieee.neg (word h.g i)) (max (minus (word b.upper i) (word h.x i)) zero64))

-- `projected_norm`
unfoldable pub projected_norm : ℕ → Bounds → State → Float
projected_norm n b h = fold_to n (λ i largest. max largest (projected b h i)) zero64

unfoldable pub gradient_small : Machine → Bool
gradient_small m = Ieee.le (projected_norm m.terms.n m.terms.bounds m.held) m.limits.gtol

-- old and new: the values held before the last move and after it
abbrev pub small_decrease : Float → Float → Float → Bool
small_decrease ftol old new = Ieee.le (minus old new) (times ftol (max (max (abs old) (abs new)) one64))

unfoldable pub decrease_small : Machine → Bool
decrease_small m = small_decrease m.limits.ftol m.before m.held.f

-- ---- one iteration, from the point held to the first trial

-- the next trial of a search; the old trial's value and gradient stay until they are replied
unfoldable pub try_step : Search → Machine → Machine
try_step r m =
    ask_value (Phase.value Place.trial)
    (searching r (trying (state (trial_point m.terms.n m.terms.bounds m.held.x m.direction r.alpha) m.trial.f m.trial.g) m))

-- ---- what the search hands back

-- the pair that the step gives is kept, if it is fit
unfoldable pub learn : Machine → Machine
learn m =
    with_compact
    (update m.terms.n m.terms.maxcor m.compact
    (difference m.terms.n m.trial.x m.held.x)
    (difference m.terms.n m.trial.g m.held.g))
    m

-- the driver moves to the trial and gives notice
unfoldable pub move : Machine → Machine
move m =
    made m.terms m.limits m.trial m.compact m.trial m.direction m.search m.right_value m.held.f
    (charge_iteration m.counters) Phase.notice

-- the driver moves to the step that is accepted, or tries another; else the run ends
abbrev pub by_verdict : Machine → Verdict → Machine
by_verdict m Verdict.accepted = move (learn m)
by_verdict m (Verdict.another r) = try_step r m
by_verdict m Verdict.failed = ending Termination.line_search_failed m

-- ---- the direction, and the first trial along it

unfoldable pub search_along : Machine → Machine
search_along m = by_verdict m (or_failed (begin_search m.terms.n m.terms.bounds m.held.x m.held.g m.direction))

-- the ends that the model offers: the Cauchy point, and the minimum over its free coordinates
pub record Ends : Type 0 where
  pub cauchy : List Float
  pub target : List Float

abbrev pub ends_from : Terms → Compact → State → List Float → Option Ends
ends_from t c h p = primal_minimize t.n t.bounds c h.x h.g p and_then λ q. Some (record { cauchy = p; target = q })

unfoldable pub ends_of : Terms → Compact → State → Option Ends
ends_of t c h = generalized_cauchy t.n t.bounds c h.x h.g and_then ends_from t c h

-- the target, unless it lies uphill
abbrev pub chosen_end : ℕ → State → Ends → List Float
chosen_end n h e = cond (Ieee.le zero64 (dot n h.g (difference n e.target h.x))) e.cauchy e.target

unfoldable pub towards : Ends → Machine → Machine
towards e m = search_along (heading (difference m.terms.n (chosen_end m.terms.n m.held e) m.held.x) m)

abbrev pub by_model : Machine → Option Ends → Machine
by_model m None = ending Termination.line_search_failed m
by_model m (Some e) = towards e m

-- a model that failed with pairs drops them for good and is tried once more
unfoldable pub without_pairs : Machine → Machine
without_pairs m = by_model (with_compact no_pairs m) (ends_of m.terms no_pairs m.held)

abbrev pub or_without_pairs : Machine → Option Ends → Machine
or_without_pairs m (Some e) = towards e m
or_without_pairs m None = cond (eqb (count m.compact) 0) (ending Termination.line_search_failed m) (without_pairs m)

-- the direction and the first trial along it
unfoldable pub descend : Machine → Machine
descend m = or_without_pairs m (ends_of m.terms m.compact m.held)

unfoldable pub iterate : Machine → Machine
iterate m = cond (gradient_small m) (ending Termination.gtol m) (descend m)

-- ---- when the gradient at a place is complete

unfoldable pub judge_trial : Machine → Machine
judge_trial m =
    by_verdict m (judge m.search m.held.f m.trial.f (dot m.terms.n m.trial.g m.direction))

abbrev pub measured : Place → Machine → Machine
measured Place.start m = iterate (holding m.trial m)
measured Place.trial m = judge_trial m

-- a gradient, supplied or differenced, counts before it is looked at
unfoldable pub complete : Place → Machine → Machine
complete w m =
    cond (all_finite m.terms.n m.trial.g)
    (measured w (counting (charge_gradient m.counters) m))
    (ending Termination.nonfinite (counting (charge_gradient m.counters) m))

-- ---- differences

abbrev pub with_gradient : List Float → Machine → Machine
with_gradient g m = trying (state m.trial.x m.trial.f g) m

-- component i of the trial's gradient
abbrev pub with_component : ℕ → Float → Machine → Machine
with_component i v m = with_gradient (set m.trial.g i v) m

-- what coordinate i asks; `next` is the machine past it, where nothing is probed
abbrev pub by_probes : Place → ℕ → Machine → Machine → Probes → Machine
by_probes w i m next Probes.neither = next
by_probes w i m next (Probes.both r l) = ask_value (Phase.probe w i Side.right) m
by_probes w i m next (Probes.right_only r) = ask_value (Phase.probe w i Side.right) m
by_probes w i m next (Probes.left_only l) = ask_value (Phase.probe w i Side.left) m

-- coordinate i and those after it, `more` in all: 0 where nothing is probed
unfoldable pub probe_from : ℕ → Place → ℕ → Machine → Machine
probe_from zero w i m = complete w m
probe_from (suc more) w i m =
    let next = probe_from more w (i + 1) (with_component i zero64 m) in
    by_probes w i m next (probes_at m.terms m.trial.x i)

-- component i is v; on to the next coordinate
abbrev pub probed_to : Place → ℕ → Float → Machine → Machine
probed_to w i v m = probe_from (m.terms.n - (i + 1)) w (i + 1) (with_component i v m)

-- the finite value v at the probe of coordinate i on a side (there is none where nothing is probed)
abbrev pub probed : Place → ℕ → Probes → Side → Float → Machine → Machine
probed w i Probes.neither side v m = probed_to w i zero64 m
probed w i (Probes.both r l) Side.right v m = ask_value (Phase.probe w i Side.left) (with_right v m)
probed w i (Probes.both r l) Side.left v m = probed_to w i (both_quotient r l m.right_value v) m
probed w i (Probes.right_only r) side v m = probed_to w i (right_quotient (word m.trial.x i) m.trial.f r v) m
probed w i (Probes.left_only l) side v m = probed_to w i (left_quotient (word m.trial.x i) m.trial.f l v) m

-- ---- replies

abbrev pub valued : Place → Float → Machine → Machine
valued Place.start v m = holding (state m.held.x v m.held.g) (trying (state m.trial.x v m.trial.g) m)
valued Place.trial v m = trying (state m.trial.x v m.trial.g) m

unfoldable pub on_value : Place → Float → Machine → Machine
on_value w v m = cond (finite v) (in_phase (Phase.gradient w) (valued w v m)) (ending Termination.nonfinite (valued w v m))

unfoldable pub on_gradient : Place → List Float → Machine → Machine
on_gradient w g m = complete w (with_gradient g m)

unfoldable pub on_not_supplied : Place → Machine → Machine
on_not_supplied w m = probe_from m.terms.n w 0 (with_gradient (zeros m.terms.n) m)

unfoldable pub on_probe : Place → ℕ → Side → Float → Machine → Machine
on_probe w i side v m = cond (finite v) (probed w i (probes_at m.terms m.trial.x i) side v m) (ending Termination.nonfinite m)

-- the iteration budget before convergence
unfoldable pub on_go_on : Machine → Machine
on_go_on m =
    cond (iterations_spent m.limits m.counters) (ending Termination.max_iterations m)
    (cond (gradient_small m) (ending Termination.gtol m)
    (cond (decrease_small m) (ending Termination.ftol m)
    (iterate m)))

-- a failure ends the fit; a reply that is not due moves nothing
abbrev pub or_failure : Reply → Machine → Machine
or_failure r m = cond (is_failure r) (ending Termination.objective_failed m) m

-- the reply, where its kind is due
abbrev pub answer_in : Phase → Machine → Reply → Machine
answer_in (Phase.value w) m r = cond (is_value r) (on_value w (to_float (first_word r)) m) (or_failure r m)
answer_in (Phase.gradient w) m r =
    cond (eqb (reply_kind r) 2) (on_gradient w (map to_float (brought_words r)) m)
    (cond (eqb (reply_kind r) 3) (on_not_supplied w m) (or_failure r m))
answer_in (Phase.probe w i side) m r = cond (is_value r) (on_probe w i side (to_float (first_word r)) m) (or_failure r m)
answer_in Phase.notice m r =
    cond (eqb (reply_kind r) 4) (on_go_on m)
    (cond (eqb (reply_kind r) 5) (ending Termination.cancelled m) (or_failure r m))
answer_in (Phase.ended t) m r = m

abbrev pub answer : Machine → Reply → Machine
answer m r = answer_in m.phase m r

abbrev pub no_search : Search
no_search = record { alpha = zero64; low = zero64; high = None; slope0 = zero64; amax = zero64; face = false; trials = 0 }

-- The first question is the value at the clipped start. No report shows the value 0 that stands until it is replied.
unfoldable pub begin : Setup → Machine
begin s =
    let first = state (projected_start s) zero64 (zeros (dimension s)) in
    made (terms_of s) (limits_of s) first no_pairs first (zeros (dimension s)) no_search zero64 zero64 first_counters (Phase.value Place.start)

-- the machine after the replies, newest first
unfoldable pub run : Setup → List Reply → Machine
run s [] = begin s
run s (r ∷ rs) = answer (run s rs) r
