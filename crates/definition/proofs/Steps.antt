-- Steps of a search: finite, not negative, at most 10 ^ 10. What is not above a step, half the sum of
-- two, and the smaller of an unsigned float and a step are steps. Assumes nothing.
use Prim.Native.Nat.{ℕ, ◌+◌, ◌*◌, ◌^◌, ◌≤◌, ◌<◌}
use native.Mathlib.Nat.{mul-le-mul_right, mul-pos}
use native.Mathlib.Omega.{arith}
use mathlib.Core.Path.{◌≡◌, refl, subst}
use mathlib.Core.Bool.{Bool, true, false, cond}
use lib.IntN.{pos, negsuc}
use lib.Dec.{T}
use lib.Ieee.{Float, nan, inf, fin, binary64, up, down, is_nan, le, lt, add, mul, sum, round}
use lib.Ieee.Fits.{down_pos}
use lib.Ieee.Order.{round_mono}
use lib.Ieee.Positive.{through}
use lib.Ieee.Scale.{finite}
use Rattle.definition.specs.Number.{plus, times, min, half64, most_step}
use Rattle.definition.proofs.Order.{under_of_le, le_of_not_lt}
use Rattle.definition.proofs.Sign.{unsigned, round-sign, sign_not_nan}
use Rattle.definition.proofs.Finite.{finite_not_nan}

abbrev pub AtMost : ℕ → Float → Type 0
AtMost c nan = ⊥
AtMost c (inf s) = ⊥
AtMost c (fin true m e) = ⊥
AtMost c (fin false m e) = m * up e ≤ c * down e

pub at_most_finite : (c : ℕ) (x : Float) → AtMost c x → T (finite x)
at_most_finite c nan h = h
at_most_finite c (inf s) h = h
at_most_finite c (fin s m e) h = tt

pub at_most_unsigned : (c : ℕ) (x : Float) → AtMost c x → T (unsigned x)
at_most_unsigned c nan h = h
at_most_unsigned c (inf s) h = absurd h
at_most_unsigned c (fin true m e) h = h
at_most_unsigned c (fin false m e) h = tt

-- what is not above a step is a step
pub le_at_most : (c : ℕ) (x y : Float) → T (unsigned x) → AtMost c y → T (le x y) → AtMost c x
unfolding le
le_at_most c nan y u a h = u
le_at_most c (inf true) y u a h = u
le_at_most c (inf false) nan u a h = a
le_at_most c (inf false) (inf s) u a h = a
le_at_most c (inf false) (fin t n d) u a h = h
le_at_most c (fin true m e) y u a h = u
le_at_most c (fin false m e) nan u a h = absurd a
le_at_most c (fin false m e) (inf s) u a h = absurd a
le_at_most c (fin false m e) (fin true n d) u a h = absurd a
le_at_most c (fin false m e) (fin false n d) u a h =
    let k = under_of_le false m e false n d h in
    let r = through (m * up e) (n * up d) c (down e) (down d) 1 (down_pos d) (omega arith) (omega arith) in
    omega arith

round_at_most : (c n d : ℕ) (y : Float) → round binary64 false c 1 ≡ y → AtMost c y → 0 < d → n ≤ c * d → AtMost c (round binary64 false n d)
round_at_most c n d y e a h l =
    le_at_most c (round binary64 false n d) y (round-sign binary64 false n d) a
    (subst (λ (z : Float). T (le (round binary64 false n d) z)) e (round_mono binary64 n d c 1 h (omega arith) (omega arith)))

-- a step of the search: at most 10 ^ 10; halving the sum of two, or doubling one up to the limit, gives another
abbrev pub Step : Float → Type 0
Step x = AtMost most_step x

pub half_step : (x : Float) → AtMost (2 * most_step) x → Step (times x half64)
unfolding mul round
half_step nan h = h
half_step (inf s) h = absurd h
half_step (fin true m e) h = absurd h
half_step (fin false m e) h =
    round_at_most most_step (m * up e * (1 * up (negsuc 0))) (down e * down (negsuc 0)) (fin false (5 ^ 10) (pos 10)) tenth (omega arith)
    (mul-pos (down_pos e) (omega arith))
    (less (m * up e) (down e) h)
  where
    tenth : round binary64 false most_step 1 ≡ fin false (5 ^ 10) (pos 10)
    tenth = refl

    less : (a b : ℕ) → a ≤ 2 * most_step * b → a * (1 * 1) ≤ most_step * (b * 2)
    less a b k = omega arith

pub sum_step : (x y : Float) → Step x → Step y → AtMost (2 * most_step) (plus x y)
unfolding add sum round
sum_step nan y h k = absurd h
sum_step (inf s) y h k = absurd h
sum_step (fin true m e) y h k = absurd h
sum_step (fin false m e) nan h k = k
sum_step (fin false m e) (inf s) h k = absurd k
sum_step (fin false m e) (fin true n d) h k = absurd k
sum_step (fin false m e) (fin false n d) h k =
    round_at_most (2 * most_step) (m * up e * down d + n * up d * down e) (down e * down d) (fin false (5 ^ 10) (pos 11)) twentieth (omega arith)
    (mul-pos (down_pos e) (down_pos d))
    (both (m * up e) (n * up d) (down e) (down d) h k)
  where
    twentieth : round binary64 false (2 * most_step) 1 ≡ fin false (5 ^ 10) (pos 11)
    twentieth = refl

    both : (a b p q : ℕ) → a ≤ most_step * p → b ≤ most_step * q → a * q + b * p ≤ 2 * most_step * (p * q)
    both a b p q h k = omega (arith, mul-le-mul_right q h, mul-le-mul_right p k)

pub min_step : (x y : Float) → T (unsigned x) → Step y → Step (min x y)
min_step x y u k = go (is_nan x) (lt y x) refl
  where
    go : (t v : Bool) → lt y x ≡ v → Step (cond t y (cond v y x))
    go true v e = k
    go false true e = k
    go false false e = le_at_most most_step x y u k (le_of_not_lt y x (finite_not_nan y (at_most_finite most_step y k)) (sign_not_nan false x u) e)
