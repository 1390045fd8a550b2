-- The step search: its steps are positive and at most 10 ^ 10, its slope is negative and its direction finite,
-- and a trial that it accepts is not above the value held. Assumes nothing.
use Prim.Native.Nat.{ℕ, zero, suc, ◌^◌}
use native.Mathlib.Omega.{arith}
use mathlib.Core.Path.{◌≡◌, refl, subst}
use mathlib.Core.Bool.{Bool, true, false, not, cond, ◌&&◌, ◌||◌}
use mathlib.Core.List.{List}
use Rattle.std.specs.Prelude.{Option, None, Some}
use mathlib.Core.Logic.{inl, inr}
use lib.IntN.{pos}
use lib.Dec.{T, leb}
use lib.Ieee.{Float, nan, inf, fin, binary64, fits, lt, eq, le, is_nan, round}
use lib.Ieee.Fits.{and_l, and_r}
use lib.Ieee.Scale.{finite}
use Rattle.definition.specs.Number.{plus, times, min, zero64, one64, two64, most_step, step_limit}
use Rattle.definition.specs.Vector.{fold_to, dot}
use Rattle.definition.specs.Problem.{Bounds}
use Rattle.definition.specs.Search.{Search, search_trials, Limit, distance, limit_of, first_search, with_limit, begin_search, decreases}
use Rattle.definition.specs.Search.{flat, on_face, accepts, narrows, low_after, high_after, following, goes_on, after_trial}
use Rattle.definition.specs.Values.{Given}
use Rattle.definition.specs.Points.{EachFinite}
use Rattle.definition.proofs.Order.{NotNan, le_of_under, le_refl, le_trans, le_of_not_lt, le_antisymm}
use Rattle.definition.proofs.Sign.{unsigned, signed, unsigned_of_lt, signed_of_lt, times-sign}
use Rattle.definition.proofs.Finite.{finite_not_nan, times_not_nan, dot_factors_finite}
use Rattle.definition.proofs.Descent.{trial_not_above}
use Rattle.definition.proofs.Steps.{at_most_finite, at_most_unsigned, le_at_most, Step, half_step, sum_step, min_step}
use Rattle.definition.proofs.Tests.{by_test, holds, both_hold}

-- ---- steps

limit_step : Step step_limit
unfolding round
limit_step = omega arith

pub step_le_limit : (x : Float) → Step x → T (le x step_limit)
unfolding round
step_le_limit nan h = absurd h
step_le_limit (inf s) h = absurd h
step_le_limit (fin true m e) h = absurd h
step_le_limit (fin false m e) h = le_of_under false m e false (5 ^ 10) (pos 10) (omega arith)

zero_le_step : (x : Float) → Step x → T (le zero64 x)
zero_le_step nan h = absurd h
zero_le_step (inf s) h = absurd h
zero_le_step (fin true m e) h = absurd h
zero_le_step (fin false m e) h = le_of_under false 0 (pos 0) false m e (omega arith)

step_not_nan : (x : Float) → Step x → NotNan x
step_not_nan x h = finite_not_nan x (at_most_finite most_step x h)

step_positive : (x : Float) → Step x → eq x zero64 ≡ false → T (lt zero64 x)
unfolding is_nan
step_positive x h e = go (lt zero64 x) refl
  where
    go : (t : Bool) → lt zero64 x ≡ t → T (lt zero64 x)
    go true q = holds q
    go false q = absurd (subst T e (le_antisymm x zero64 (le_of_not_lt zero64 x tt (step_not_nan x h) q) (zero_le_step x h)))

min_positive : (x y : Float) → T (lt zero64 x) → T (lt zero64 y) → T (lt zero64 (min x y))
min_positive x y p q = by_test P (is_nan x) (λ _. q) (λ _. by_test P (lt y x) (λ _. q) (λ _. p))
  where
    P : Float → Type 0
    P z = T (lt zero64 z)

twice_unsigned : (x : Float) → Step x → T (unsigned (times x two64))
unfolding is_nan
twice_unsigned x h = elim (times-sign false false x two64 (at_most_unsigned most_step x h) tt)
    [ inl e ↦ absurd (rw e at (times_not_nan x two64 (at_most_finite most_step x h) tt)) | inr u ↦ u ]

-- ---- a search

pub record Running (r : Search) : Type 0 where
  pub alpha : Step r.alpha
  pub positive : T (lt zero64 r.alpha)
  pub low : Step r.low
  pub high : Given Step r.high
  pub amax : Step r.amax
  pub slope : T (signed r.slope0)

-- the limit starts at the longest step and never grows
limit_low : (n : ℕ) (b : Bounds) (x d : List Float) → T (le (limit_of n b x d).amax step_limit)
unfolding limit_of fold_to
limit_low zero b x d = le_refl step_limit (step_not_nan step_limit limit_step)
limit_low (suc n) b x d =
    let l = limit_of n b x d in
    let t = distance b x d n in
    let h = limit_low n b x d in
    by_test (λ (k : Limit). T (le k.amax step_limit)) (finite t && le t l.amax)
    (λ e. le_trans t l.amax step_limit (both_hold (finite t) (le t l.amax) e).1 h) (λ _. h)

-- what is handed on passed its test
passed : {A : Type 0} (t : Bool) (o : Option A) {a : A} → cond t o None ≡ Some a → T t × (o ≡ Some a)
passed true o e = (tt, e)
passed false o e = let z : ◌≡◌ {A = ℕ} 0 1 = cc in absurd (omega arith)

same_given : {A : Type 0} (P : A → Type 0) (a b : A) → Some a ≡ Some b → P a → P b
same_given P a b e h = let q : a ≡ b = cc in rw q at h

-- a search that begins
pub begun_running : (n : ℕ) (b : Bounds) (x g d : List Float) (r : Search) → begin_search n b x g d ≡ Some r → EachFinite n d × Running r
unfolding begin_search lt
begun_running n b x g d r e =
    let slope = dot n g d in
    let l = limit_of n b x d in
    let p = passed (finite slope && lt slope zero64) (with_limit slope l) e in
    let q = passed (finite l.amax && lt zero64 l.amax) (Some (first_search slope l)) p.1 in
    let whole = and_l (finite slope) (lt slope zero64) p.0 in
    let down = and_r (finite slope) (lt slope zero64) p.0 in
    let up = and_r (finite l.amax) (lt zero64 l.amax) q.0 in
    let a : Step l.amax = le_at_most most_step l.amax step_limit (unsigned_of_lt l.amax up) limit_step (limit_low n b x d) in
    let first : Running (first_search slope l) = record {
      alpha = min_step one64 l.amax tt a;
      positive = min_positive one64 l.amax tt up;
      low = omega arith;
      high = tt;
      amax = a;
      slope = signed_of_lt slope down;
    } in
    ((λ i k. (dot_factors_finite n g d whole i k).1), same_given Running (first_search slope l) r q.1 first)

-- the trial after one that is not accepted
module _ (r : Search) (f v slope : Float) (h : Running r) where
  high_step : Given Step (high_after r f v slope)
  high_step = by_test (Given Step) (narrows r f v slope) (λ _. h.alpha) (λ _. h.high)

  low_step : Step (low_after r f v slope)
  low_step = by_test Step (narrows r f v slope) (λ _. h.low) (λ _. h.alpha)

  following_step : (low : Float) (high : Option Float) → Step low → Given Step high → Step (following r low high)
  following_step low None p q = min_step (times r.alpha two64) r.amax (twice_unsigned r.alpha h.alpha) h.amax
  following_step low (Some high) p q = half_step (plus low high) (sum_step low high p q)

  pub next_running : (q : Search) → after_trial r f v slope ≡ Some q → Running q
  unfolding after_trial
  next_running q e =
      let low = low_after r f v slope in
      let high = high_after r f v slope in
      let next = following r low high in
      let step = following_step low high low_step high_step in
      let p = passed (goes_on r next) _ e in
      same_given Running _ q p.1 (record {
        alpha = step;
        positive = step_positive next step (not_zero (eq next r.alpha) (eq next zero64) (leb search_trials r.trials) p.0);
        low = low_step;
        high = high_step;
        amax = h.amax;
        slope = h.slope;
      })
    where
      not_zero : (a b c : Bool) → T (not (a || b || c)) → b ≡ false
      not_zero true b c e = absurd e
      not_zero false true c e = absurd e
      not_zero false false c e = refl

  -- an accepted trial does not rise
  pub accepted_not_above : T (fits binary64 f) → T (finite f) → accepts r f v slope ≡ true → T (le v f)
  unfolding accepts
  accepted_not_above p q e =
      let decreased = (both_hold (decreases r f v) (flat r slope || on_face r f v) e).0 in
      trial_not_above v f r.alpha r.slope0 p q (at_most_unsigned most_step r.alpha h.alpha) h.slope decreased
