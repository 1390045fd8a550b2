-- What std says of floats, in the definition's words. Assumes nothing.
use Prim.Native.Nat.{ℕ, zero, suc, ◌+◌, ◌-◌, ◌/◌, ◌%◌, ◌<◌, ◌≤◌}
use native.Mathlib.Omega.{arith}
use mathlib.Core.Path.{◌≡◌, refl, sym, ap, ◌∙◌, subst}
use mathlib.Core.Bool.{Bool, true, false, not, cond}
use lib.Dec.{T, eqb, ltb, leb}
use lib.IntN.{ℤ}
use lib.Ieee.{Float, nan, inf, fin, binary64, fits, is_nan, neg, of_bits, of_fields, odd, to_bits, hid, ones, prec, low}
use lib.Ieee.Bits.{of_bits-to_bits, to_bits-lt, nan_bits_above, nan_bits_is, is_true}
use lib.Ieee.Fits.{neg-fits}
use borrow.Author.Tests.{ltb-false}
use lib.Ieee.Scale.{finite}
use Rattle.std.specs.Float as Std
use Rattle.std.specs.Float.{float_is_finite, float_with_sign}
use Rattle.definition.specs.Number.{to_float, to_word, sign_bit, infinity_word, up_bits, down_bits, abs, next_up, next_down}

pub abs_is : (x : Float) → float_with_sign false x ≡ abs x
unfolding float_with_sign
abs_is nan = refl
abs_is (inf s) = refl
abs_is (fin s m e) = refl

pub finite_is : (x : Float) → float_is_finite x ≡ finite x
unfolding float_is_finite
finite_is nan = refl
finite_is (inf s) = refl
finite_is (fin s m e) = refl

-- ---- words with the sign's bit

odd_neg : (d : ℕ) (s : Bool) (q k l : ℕ) → odd d (not s) q k l ≡ neg (odd d s q k l)
unfolding odd neg
odd_neg d s zero k l = refl
odd_neg d s (suc q) k l = refl

fields_neg : (s : Bool) (x t : ℕ) → of_fields binary64 (not s) x t ≡ neg (of_fields binary64 s x t)
unfolding of_fields neg
fields_neg s zero t = odd_neg (prec binary64) s t 0 (low binary64)
fields_neg s (suc x) t = go (eqb (suc x) (ones binary64)) (eqb t 0)
  where
    go : (p q : Bool) → cond p (cond q (inf (not s)) nan) (odd (prec binary64) (not s) (hid binary64 + t) x (low binary64))
        ≡ neg (cond p (cond q (inf s) nan) (odd (prec binary64) s (hid binary64 + t) x (low binary64)))
    go true true = refl
    go true false = refl
    go false q = odd_neg (prec binary64) s (hid binary64 + t) x (low binary64)

float_of_signed : (w : ℕ) → w < sign_bit → to_float (sign_bit + w) ≡ neg (to_float w)
unfolding of_bits
float_of_signed w h =
    let e : (sign_bit + w) % sign_bit ≡ w % sign_bit = omega arith in
    let d : (sign_bit + w) % hid binary64 ≡ w % hid binary64 = omega arith in
    let t : leb sign_bit (sign_bit + w) ≡ true = grind arith in
    let f : leb sign_bit w ≡ false = grind arith in
    simp (e, d, t, f) (fields_neg false (w % sign_bit / hid binary64) (w % hid binary64))

-- ---- neighbours

pub up_is : (x : Float) → fits binary64 x ≡ true → Std.next_up binary64 x ≡ next_up x
up_is x h =
    let r : to_float (to_word x) ≡ x = of_bits-to_bits binary64 x (subst T (sym h) tt) in
    let s : eqb (to_word x) (to_word x % sign_bit) ≡ ltb (to_word x) sign_bit = grind arith in
    simp s (go (eqb (to_word x) infinity_word) (eqb (to_word x % sign_bit) 0) (ltb (to_word x) sign_bit) r)
  where
    go : (p q s : Bool) → to_float (to_word x) ≡ x
        → cond (is_nan x) x (cond p x (cond q (to_float 1) (cond s (to_float (to_word x + 1)) (to_float (to_word x - 1)))))
        ≡ cond (is_nan x) x (to_float (cond p (to_word x) (cond q 1 (cond s (to_word x + 1) (to_word x - 1)))))
    go true q s r = rw r
    go false true s r = refl
    go false false true r = refl
    go false false false r = refl

-- below a number is what is above its negative, negated
neg_neg : (x : Float) → neg (neg x) ≡ x
unfolding neg
neg_neg nan = refl
neg_neg (inf true) = refl
neg_neg (inf false) = refl
neg_neg (fin true m e) = refl
neg_neg (fin false m e) = refl

up_in : (w : ℕ) → w ≤ infinity_word → up_bits w < sign_bit
up_in w h = grind arith

down_signed : (w : ℕ) → w ≤ infinity_word → down_bits (sign_bit + w) ≡ sign_bit + up_bits w
down_signed w h = grind arith

down_signed_float : (w : ℕ) → w ≤ infinity_word → to_float (down_bits (sign_bit + w)) ≡ neg (to_float (up_bits w))
down_signed_float w h = rw (down_signed w h) (float_of_signed (up_bits w) (up_in w h))

down_float : (w : ℕ) → w ≤ infinity_word → to_float (down_bits w) ≡ neg (to_float (up_bits (sign_bit + w)))
down_float zero h = float_of_signed 1 (omega arith)
down_float (suc w) h =
    let d : down_bits (suc w) ≡ w = grind arith in
    let u : up_bits (sign_bit + suc w) ≡ sign_bit + w = grind arith in
    rw (d, u, float_of_signed w (omega arith), neg_neg) refl

word_of_negative : (m : ℕ) (e : ℤ) → to_word (fin true m e) ≡ sign_bit + to_word (fin false m e)
unfolding to_bits
word_of_negative m e = omega arith

sign_fits : (s t : Bool) (m : ℕ) (e : ℤ) → T (fits binary64 (fin s m e)) → T (fits binary64 (fin t m e))
unfolding fits
sign_fits s t zero e h = h
sign_fits s t (suc m) e h = h

word_in : (m : ℕ) (e : ℤ) → T (fits binary64 (fin false m e)) → to_word (fin false m e) ≤ infinity_word
unfolding is_nan
word_in m e h =
    let w = to_word (fin false m e) in
    let n : is_nan (to_float w) ≡ false = ap is_nan (of_bits-to_bits binary64 (fin false m e) h) in
    let l : w % sign_bit ≤ infinity_word = ltb-false _ _ (sym (nan_bits_above binary64 w) ∙ nan_bits_is binary64 w ∙ n) in
    omega (arith, to_bits-lt binary64 (fin true m e) (sign_fits false true m e h), word_of_negative m e)

below_negative : (m : ℕ) (e : ℤ) → T (fits binary64 (fin false m e)) → neg (next_up (fin false m e)) ≡ next_down (fin true m e)
unfolding is_nan
below_negative m e h = rw (word_of_negative, down_signed_float (to_word (fin false m e)) (word_in m e h)) refl

below_positive : (m : ℕ) (e : ℤ) → T (fits binary64 (fin false m e)) → neg (next_up (fin true m e)) ≡ next_down (fin false m e)
unfolding is_nan
below_positive m e h = rw (word_of_negative, down_float (to_word (fin false m e)) (word_in m e h)) refl

below_is : (x : Float) → T (fits binary64 x) → neg (next_up (neg x)) ≡ next_down x
unfolding neg is_nan to_bits of_bits
below_is nan h = refl
below_is (inf true) h = refl
below_is (inf false) h = refl
below_is (fin true m e) h = below_negative m e (sign_fits true false m e h)
below_is (fin false m e) h = below_positive m e h

pub down_is : (x : Float) → fits binary64 x ≡ true → Std.next_down binary64 x ≡ next_down x
down_is x h =
    let f = subst T (sym h) tt in
    rw (up_is (neg x) (is_true _ (neg-fits binary64 x f))) (below_is x f)
