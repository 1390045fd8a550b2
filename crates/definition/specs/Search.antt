-- The step search along a direction, as one record from question to question.
use Rattle.std.specs.Prelude.{ℕ, ◌+◌, Bool, true, false, not, cond, ◌&&◌, ◌||◌, List, leb, Float}
use Rattle.std.specs.Prelude.{Option, None, Some}
use Rattle.std.specs.Float.Ieee as Ieee
use Rattle.std.specs.Float.Ieee.Scale.{finite}
use Rattle.definition.specs.Number.{plus, minus, times, over, abs, min, zero64, one64, two64, half64, infinity, c1, c2, step_limit}
use Rattle.definition.specs.Vector.{fold_to, tab, word, dot}
use Rattle.definition.specs.Problem.{Bounds, in_box}

pub record Search : Type 0 where
  pub alpha : Float
  pub low : Float
  pub high : Option Float
  pub slope0 : Float
  pub amax : Float
  -- amax is where a bound is met
  pub face : Bool
  -- the number of the trial, from 1
  pub trials : ℕ

-- `SEARCH_TRIALS`
abbrev pub search_trials : ℕ
search_trials = 60

-- ---- the start: how far the box lets the step go

pub record Limit : Type 0 where
  pub amax : Float
  pub face : Bool

abbrev pub distance : Bounds → List Float → List Float → ℕ → Float
distance b x d i =
    cond (Ieee.lt zero64 (word d i)) (over (minus (word b.upper i) (word x i)) (word d i))
    (cond (Ieee.lt (word d i) zero64) (over (minus (word b.lower i) (word x i)) (word d i)) infinity)

abbrev pub limited : Float → Limit → Limit
limited t l = cond (finite t && Ieee.le t l.amax) (record { amax = t; face = true }) l

unfoldable pub limit_of : ℕ → Bounds → List Float → List Float → Limit
limit_of n b x d = fold_to n (λ i l. limited (distance b x d i) l) (record { amax = step_limit; face = false })

abbrev pub first_search : Float → Limit → Search
first_search slope0 l =
    record { alpha = min one64 l.amax; low = zero64; high = None; slope0 = slope0; amax = l.amax; face = l.face; trials = 1 }

abbrev pub with_limit : Float → Limit → Option Search
with_limit slope0 l = cond (finite l.amax && Ieee.lt zero64 l.amax) (Some (first_search slope0 l)) None

-- none: there is nothing to search
unfoldable pub begin_search : ℕ → Bounds → List Float → List Float → List Float → Option Search
begin_search n b x g d = let slope0 = dot n g d in cond (finite slope0 && Ieee.lt slope0 zero64) (with_limit slope0 (limit_of n b x d)) None

unfoldable pub trial_point : ℕ → Bounds → List Float → List Float → Float → List Float
trial_point n b x d alpha = tab n (λ i. in_box b i (plus (word x i) (times alpha (word d i))))

-- ---- after a trial: f the value held, v and slope those at the trial

-- the bound is f + ((c1 · alpha) · slope0)
abbrev pub decreases : Search → Float → Float → Bool
decreases s f v = Ieee.le v (plus f (times (times c1 s.alpha) s.slope0))

abbrev pub flat : Search → Float → Bool
flat s slope = Ieee.le (abs slope) (times c2 (abs s.slope0))

-- the limiting face is reached, with a lower value
abbrev pub on_face : Search → Float → Float → Bool
on_face s f v = s.face && Ieee.eq s.alpha s.amax && Ieee.lt v f

unfoldable pub accepts : Search → Float → Float → Float → Bool
accepts s f v slope = decreases s f v && (flat s slope || on_face s f v)

-- the two ends after a trial that is not accepted: it becomes the high end, or the low one
abbrev pub narrows : Search → Float → Float → Float → Bool
narrows s f v slope = not (decreases s f v) || Ieee.le zero64 slope

abbrev pub low_after : Search → Float → Float → Float → Float
low_after s f v slope = cond (narrows s f v slope) s.low s.alpha

abbrev pub high_after : Search → Float → Float → Float → Option Float
high_after s f v slope = cond (narrows s f v slope) (Some s.alpha) s.high

abbrev pub following : Search → Float → Option Float → Float
following s low None = min (times s.alpha two64) s.amax
following s low (Some high) = times (plus low high) half64

abbrev pub goes_on : Search → Float → Bool
goes_on s next = not (Ieee.eq next s.alpha || Ieee.eq next zero64 || leb search_trials s.trials)

abbrev pub next_trial : Search → Float → Option Float → Float → Option Search
next_trial s low high next =
    cond (goes_on s next)
    (Some (record { alpha = next; low = low; high = high; slope0 = s.slope0; amax = s.amax; face = s.face; trials = s.trials + 1 }))
    None

-- the next trial, or none: the search has failed
unfoldable pub after_trial : Search → Float → Float → Float → Option Search
after_trial s f v slope =
    let low = low_after s f v slope in
    let high = high_after s f v slope in
    next_trial s low high (following s low high)

-- what the search hands back after a trial: the step is accepted, another trial, or it has failed
pub data Verdict : Type 0 where
  accepted : Verdict
  another : Search → Verdict
  failed : Verdict

abbrev pub or_failed : Option Search → Verdict
or_failed (Some s) = Verdict.another s
or_failed None = Verdict.failed

abbrev pub judge : Search → Float → Float → Float → Verdict
judge s f v slope = cond (accepts s f v slope) Verdict.accepted (or_failed (after_trial s f v slope))
