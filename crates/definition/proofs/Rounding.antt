-- Rounding keeps the order of signed fractions, and a float that its format holds is what its own fraction rounds to. Assumes nothing.
use Prim.Native.Nat.{ℕ, zero, suc, ◌+◌, ◌-◌, ◌*◌, ◌/◌, ◌%◌, ◌^◌, ◌≤◌, ◌<◌}
use native.Mathlib.Nat.{le_of_suc-le-suc, le_of_mul-le-mul_right, lt_of_not-le, not-le_of_lt}
use native.Mathlib.Nat.{lt_of_mul-lt-mul_right, mul-lt-mul_of_pos_right, zero-mul, mul-one, one-mul, mul_assoc}
use native.Mathlib.Omega.{arith}
use mathlib.Core.Path.{◌≡◌, refl, sym, ap, ◌∙◌, subst}
use mathlib.Core.Bool.{Bool, true, false, ◌&&◌, cond}
use lib.IntN.{ℤ, pos, negsuc}
use lib.Dec.{T, ltb, leb, eqb, ltb→lt, leb→le}
use lib.Pow.{pow-add, pow_pos, pow-lt}
use lib.Ieee.{Float, nan, inf, fin, Format, binary32, binary64, prec, emax, low, hid, top, up, down, size, odd, units, round, neg, le, fits, to_bits, of_bits}
use lib.Ieee.Fits.{down_pos, and_l, and_r, round-fits}
use lib.Ieee.Bits.{of_bits-to_bits}
use lib.Ieee.Digits.{back}
use lib.Ieee.Exact.{HasValue, round_exact}
use lib.Ieee.Nearest.{div_same}
use lib.Ieee.Order.{round_mono}
use lib.Ieee.Scale.{round_same}
use Rattle.definition.proofs.Order.{Under, le-neg, le_trans}

-- ---- order

odd_neg : (d q k l : ℕ) → odd d true q k l ≡ neg (odd d false q k l)
unfolding odd neg
odd_neg d zero k l = refl
odd_neg d (suc q) k l = refl

module _ (f : Format) where
  units_neg : (q k : ℕ) → units f true q k ≡ neg (units f false q k)
  unfolding units neg
  units_neg q k = go (ltb (q * 2 ^ k) (2 ^ (low f + suc (emax f))))
    where
      go : (b : Bool) → cond b (odd (suc (prec f)) true q k (low f)) (inf true) ≡ neg (cond b (odd (suc (prec f)) false q k (low f)) (inf false))
      go true = odd_neg (suc (prec f)) q k (low f)
      go false = refl

  round-neg : (a b : ℕ) → round f true a b ≡ neg (round f false a b)
  unfolding round
  round-neg a b = units_neg _ _

  round_zero_one : (s : Bool) → round f s 0 1 ≡ fin s 0 (pos 0)
  unfolding round
  round_zero_one s = go f
    where
      go : (g : Format) → round g s 0 1 ≡ fin s 0 (pos 0)
      go binary32 = refl
      go binary64 = refl

  round_zero : (s : Bool) (b : ℕ) → 0 < b → round f s 0 b ≡ fin s 0 (pos 0)
  round_zero s b B = round_same f s 0 b 0 1 B (omega arith) (simp zero-mul) ∙ round_zero_one s

  round_mono-neg : (a p b q : ℕ) → 0 < p → 0 < q → b * p ≤ a * q → T (le (round f true a p) (round f true b q))
  round_mono-neg a p b q P Q h = rw (round-neg a p, round-neg b q) (le-neg _ _ (round_mono f b q a p Q P h))

  -- ±a / p ≤ ±b / q, rounded
  pub round_monotone : (s : Bool) (a p : ℕ) (t : Bool) (b q : ℕ) → 0 < p → 0 < q → Under s a p t b q → T (le (round f s a p) (round f t b q))
  round_monotone false a p false b q P Q h = round_mono f a p b q P Q (omega arith)
  round_monotone false a p true b q P Q h =
      let A : a ≡ 0 = omega (arith, le_of_mul-le-mul_right {m = a} {n = 0} {k = q} (omega arith) Q) in
      let B : b ≡ 0 = omega (arith, le_of_mul-le-mul_right {m = b} {n = 0} {k = p} (omega arith) P) in
      rw (A, B, round_zero false p P, round_zero true q Q) (unfold le in tt)
  round_monotone true a p false b q P Q h =
      le_trans (round f true a p) (fin true 0 (pos 0)) (round f false b q)
      (rw (← (round_zero_one true)) (round_mono-neg a p 0 1 P (omega arith) (omega arith)))
      (le_trans (fin true 0 (pos 0)) (fin false 0 (pos 0)) (round f false b q) (unfold le in tt)
      (rw (← (round_zero_one false)) (round_mono f 0 1 b q (omega arith) Q (omega arith))))
  round_monotone true a p true b q P Q h = round_mono-neg a p b q P Q (omega arith)

-- ---- a float's own fraction

-- 2 ^ e, in units of 2 ^ -l, is a power of two.
shift : (e : ℤ) (l : ℕ) → down e ≤ 2 ^ l → (j : ℕ) × (up e * 2 ^ l ≡ 2 ^ j * down e)
shift (pos k) l h = (k + l, sym (pow-add 2 k l) ∙ sym (mul-one (2 ^ (k + l))))
shift (negsuc k) l h = (l - suc k, one-mul (2 ^ l) ∙ ap (λ (z : ℕ). 2 ^ z) (sym (back l (suc k) le)) ∙ pow-add 2 (l - suc k) (suc k))
  where
    le : suc k ≤ l
    le = le_of_suc-le-suc (lt_of_not-le (λ (g : suc l ≤ suc k). not-le_of_lt (pow-lt g) h))

room : (m u l j w d : ℕ) → u * l ≡ j * d → m * u < w * d → 0 < l → m * j < l * w
room m u l j w d e h L = lt_of_mul-lt-mul_right d (omega (arith, mul-lt-mul_of_pos_right h L, ap (λ (z : ℕ). m * z) e))

module _ (f : Format) where
  round_value : (s : Bool) (m : ℕ) (e : ℤ) → T (fits f (fin s m e)) → HasValue (round f s (m * up e) (down e)) s (m * up e) (down e)
  unfolding fits
  round_value s zero e h = round_exact f s (0 * up e) (down e) 0 0 (down_pos e) (pow_pos (prec f)) (pow_pos (low f + suc (emax f))) (simp zero-mul)
  round_value s (suc m) e h =
      let A = eqb (suc m % 2) 1 in
      let B = ltb (suc m) (2 ^ prec f) in
      let C = leb (down e) (2 ^ low f) in
      let D = ltb (suc m * up e) (2 ^ suc (emax f) * down e) in
      let abc = and_l (A && B && C) D h in
      let j = shift e (low f) (leb→le (down e) (2 ^ low f) (and_r (A && B) C abc)) in
      round_exact f s (suc m * up e) (down e) (suc m) j.0 (down_pos e)
      (ltb→lt (suc m) (2 ^ prec f) (and_r A B (and_l (A && B) C abc)))
      (rw pow-add (room (suc m) (up e) (2 ^ low f) (2 ^ j.0) (2 ^ suc (emax f)) (down e) j.1
      (ltb→lt (suc m * up e) (2 ^ suc (emax f) * down e) (and_r (A && B && C) D h)) (pow_pos (low f))))
      (rw (mul_assoc (suc m) (up e) (2 ^ low f), j.1) (sym (mul_assoc (suc m) (2 ^ j.0) (down e))))

  same_value : (s : Bool) (m : ℕ) (e : ℤ) (n : ℕ) (d : ℤ) → T (fits f (fin s m e)) → T (fits f (fin s n d)) → m * up e * down d ≡ n * up d * down e
      → fin s m e ≡ fin s n d
  unfolding to_bits
  same_value s m e n d h k v = sym (of_bits-to_bits f (fin s m e) h) ∙ ap (of_bits f) bits ∙ of_bits-to_bits f (fin s n d) k
    where
      bits : to_bits f (fin s m e) ≡ to_bits f (fin s n d)
      bits =
          ap (λ (z : ℕ). cond s (top f) 0 + (size z - prec f) * hid f + z / 2 ^ (size z - prec f))
          (div_same (m * up e * 2 ^ low f) (down e) (n * up d * 2 ^ low f) (down d) (down_pos e) (down_pos d) (omega (arith, ap (λ (z : ℕ). z * 2 ^ low f) v)))

  pub round_own : (s : Bool) (m : ℕ) (e : ℤ) → T (fits f (fin s m e)) → round f s (m * up e) (down e) ≡ fin s m e
  round_own s m e h = go (round f s (m * up e) (down e)) (round-fits f s (m * up e) (down e)) (round_value s m e h)
    where
      go : (x : Float) → T (fits f x) → HasValue x s (m * up e) (down e) → x ≡ fin s m e
      go nan k v = absurd v
      go (inf t) k v = absurd v
      go (fin t n d) k v = ap (λ (z : Bool). fin z n d) v.0 ∙ same_value s n d m e (subst (λ (z : Bool). T (fits f (fin z n d))) v.0 k) h v.1
