-- Addition is monotone; -0 is its neutral element; so adding what is not positive does not raise a finite float. Assumes nothing.
use Prim.Native.Nat.{ℕ, ◌+◌, ◌-◌, ◌*◌, ◌≤◌, ◌<◌, zero-le}
use native.Mathlib.Nat.{mul-le-mul_right, mul-pos, mul-one, zero-mul, add-zero, sub-zero}
use native.Mathlib.Omega.{arith}
use mathlib.Core.Path.{◌≡◌, refl, ap}
use mathlib.Core.Bool.{Bool, true, false, beq, cond}
use borrow.Author.Tests.{ltb-true, ltb-false, le-ltb}
use lib.Dec.{T, ltb}
use lib.Ieee.{Float, nan, inf, fin, Format, binary64, up, down, is_nan, fits, le, round, sum, add}
use lib.Ieee.Fits.{down_pos}
use lib.Ieee.Scale.{finite}
use Rattle.definition.specs.Number.{plus, zero64, neg_zero}
use Rattle.definition.proofs.Order.{NotNan, gain, loss, under_of_le, le_left_not_nan, le_refl, le_trans}
use Rattle.definition.proofs.Order.{le_infinity, nothing_above_infinity, neg_infinity-le}
use Rattle.definition.proofs.Rounding.{round_monotone, round_own}
use Rattle.definition.proofs.Finite.{finite_not_nan, plus_not_nan}

-- ---- finite terms

-- (a - a⁻) / p ≤ (c - c⁻) / r and (b - b⁻) / q ≤ (d - d⁻) / t, over the denominators of the sums
scaled : (a a⁻ p c c⁻ r q t : ℕ) → a * r + c⁻ * p ≤ c * p + a⁻ * r → a * q * (r * t) + c⁻ * t * (p * q) ≤ c * t * (p * q) + a⁻ * q * (r * t)
scaled a a⁻ p c c⁻ r q t h = omega (arith, mul-le-mul_right (q * t) h)

added : (a a⁻ p c c⁻ r b b⁻ q d d⁻ t : ℕ) → a * r + c⁻ * p ≤ c * p + a⁻ * r → b * t + d⁻ * q ≤ d * q + b⁻ * t
    → (a * q + b * p) * (r * t) + (c⁻ * t + d⁻ * r) * (p * q) ≤ (c * t + d * r) * (p * q) + (a⁻ * q + b⁻ * p) * (r * t)
added a a⁻ p c c⁻ r b b⁻ q d d⁻ t h k = omega (arith, scaled a a⁻ p c c⁻ r q t h, scaled b b⁻ q d d⁻ t p r k)

-- x is (p - n) / c, rounded.
record Rounded (f : Format) (x : Float) (p n c : ℕ) : Type 0 where
  sign : Bool
  size : ℕ
  is : x ≡ round f sign size c
  value : gain sign size + n ≡ loss sign size + p

module _ (f : Format) where
  rounded_le : (x : Float) (p n c : ℕ) (y : Float) (q m d : ℕ) → Rounded f x p n c → Rounded f y q m d → 0 < c → 0 < d → p * d + m * c ≤ q * c + n * d
      → T (le x y)
  rounded_le x p n c y q m d r t C D h =
      rw (r.is, t.is)
      (round_monotone f r.sign r.size c t.sign t.size d C D (omega (arith, ap (λ (z : ℕ). z * d) r.value, ap (λ (z : ℕ). z * c) t.value)))

  sum_rounded : (s : Bool) (a q : ℕ) (t : Bool) (b p c : ℕ)
      → Rounded f (sum f s (a * q) t (b * p) c) (gain s a * q + gain t b * p) (loss s a * q + loss t b * p) c
  unfolding sum
  sum_rounded false a q false b p c = record { sign = false; size = a * q + b * p; is = refl; value = omega arith }
  sum_rounded true a q true b p c = record { sign = true; size = a * q + b * p; is = refl; value = omega arith }
  sum_rounded false a q true b p c = go (ltb (a * q) (b * p)) refl
    where
      go : (x : Bool) → ltb (a * q) (b * p) ≡ x
          → Rounded f (cond x (round f true (b * p - a * q) c) (round f false (a * q - b * p) c)) (a * q + 0 * p) (0 * q + b * p) c
      go true e = record { sign = true; size = b * p - a * q; is = refl; value = omega (arith, ltb-true) }
      go false e = record { sign = false; size = a * q - b * p; is = refl; value = omega (arith, ltb-false) }
  sum_rounded true a q false b p c = go (ltb (a * q) (b * p)) (ltb (b * p) (a * q)) refl refl
    where
      go : (x y : Bool) → ltb (a * q) (b * p) ≡ x → ltb (b * p) (a * q) ≡ y
          → Rounded f (cond x (round f false (b * p - a * q) c) (round f y (a * q - b * p) c)) (0 * q + b * p) (a * q + 0 * p) c
      go true y e g = record { sign = false; size = b * p - a * q; is = refl; value = omega (arith, ltb-true) }
      go false true e g = record { sign = true; size = a * q - b * p; is = refl; value = omega (arith, ltb-false) }
      go false false e g = record { sign = false; size = a * q - b * p; is = refl; value = omega (arith, ltb-false) }

  -- ---- any terms

  inf_add : (s : Bool) (y : Float) → NotNan (add f (inf s) y) → add f (inf s) y ≡ inf s
  unfolding add is_nan
  inf_add s nan h = absurd h
  inf_add s (inf t) h = go (beq s t) h
    where
      go : (b : Bool) → NotNan (cond b (inf s) nan) → cond b (inf s) nan ≡ inf s
      go true k = refl
      go false k = absurd k
  inf_add s (fin t n d) h = refl

  add_monotone : (x y z w : Float) → T (le x y) → T (le z w) → NotNan (add f x z) → NotNan (add f y w) → T (le (add f x z) (add f y w))
  unfolding add le
  add_monotone nan y z w h k p q = absurd h
  add_monotone (inf true) y z w h k p q = rw (inf_add true z p) (neg_infinity-le (add f y w) q)
  add_monotone (inf false) y z w h k p q =
      let e = nothing_above_infinity y h in
      rw (e, inf_add false w (rw e at q)) (le_infinity (add f (inf false) z) p)
  add_monotone (fin s m e) nan z w h k p q = absurd h
  add_monotone (fin s m e) (inf true) z w h k p q = absurd h
  add_monotone (fin s m e) (inf false) z w h k p q = rw (inf_add false w q) (le_infinity (add f (fin s m e) z) p)
  add_monotone (fin s m e) (fin t n d) nan w h k p q = absurd k
  add_monotone (fin s m e) (fin t n d) (inf true) w h k p q = neg_infinity-le (add f (fin t n d) w) q
  add_monotone (fin s m e) (fin t n d) (inf false) w h k p q = rw (nothing_above_infinity w k) tt
  add_monotone (fin s m e) (fin t n d) (fin u l g) nan h k p q = absurd k
  add_monotone (fin s m e) (fin t n d) (fin u l g) (inf true) h k p q = absurd k
  add_monotone (fin s m e) (fin t n d) (fin u l g) (inf false) h k p q = le_infinity (add f (fin s m e) (fin u l g)) p
  add_monotone (fin s m e) (fin t n d) (fin u l g) (fin v i c) h k p q =
      rounded_le _ _ _ _ _ _ _ _
      (sum_rounded s (m * up e) (down g) u (l * up g) (down e) (down e * down g))
      (sum_rounded t (n * up d) (down c) v (i * up c) (down d) (down d * down c))
      (mul-pos (down_pos e) (down_pos g)) (mul-pos (down_pos d) (down_pos c))
      (added (gain s (m * up e)) (loss s (m * up e)) (down e) (gain t (n * up d)) (loss t (n * up d)) (down d)
      (gain u (l * up g)) (loss u (l * up g)) (down g) (gain v (i * up c)) (loss v (i * up c)) (down c)
      (under_of_le s m e t n d h) (under_of_le u l g v i c k))

  add_neutral : (x : Float) → T (fits f x) → add f x neg_zero ≡ x
  unfolding add sum
  add_neutral nan h = refl
  add_neutral (inf s) h = refl
  add_neutral (fin true m e) h = simp (mul-one, zero-mul, add-zero) (round_own f true m e h)
  add_neutral (fin false m e) h = simp (mul-one, zero-mul, sub-zero, le-ltb (m * up e) 0 zero-le) (round_own f false m e h)

-- ---- the laws

pub plus_right_not_nan : (x y : Float) → NotNan (plus x y) → NotNan y
unfolding add is_nan
plus_right_not_nan nan y h = absurd h
plus_right_not_nan (inf s) nan h = h
plus_right_not_nan (inf s) (inf t) h = tt
plus_right_not_nan (inf s) (fin t n d) h = tt
plus_right_not_nan (fin s m e) nan h = h
plus_right_not_nan (fin s m e) (inf t) h = tt
plus_right_not_nan (fin s m e) (fin t n d) h = tt

-- Where neither sum is a NaN, larger terms give no smaller sum.
pub plus_monotone : (x y z w : Float) → T (le x y) → T (le z w) → NotNan (plus x z) → NotNan (plus y w) → T (le (plus x z) (plus y w))
plus_monotone = add_monotone binary64

-- A sum that starts from -0 is that of its terms alone.
plus-neg_zero : (x : Float) → T (fits binary64 x) → plus x neg_zero ≡ x
plus-neg_zero = add_neutral binary64

-- What is not above zero raises no finite float.
pub plus_nonpositive-le : (x t : Float) → T (fits binary64 x) → T (finite x) → T (le t zero64) → T (le (plus x t) x)
unfolding le
plus_nonpositive-le x t h k g =
    let X = finite_not_nan x k in
    let e = plus-neg_zero x h in
    rw e at (plus_monotone x x t neg_zero (le_refl x X) (le_trans t zero64 neg_zero g tt) (plus_not_nan x t k (le_left_not_nan t zero64 g)) (rw e X))
