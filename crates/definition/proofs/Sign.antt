-- Signs: of a float above or below zero, of a rounded value, of a product, of a sum of like signs. Assumes nothing.
use Prim.Native.Nat.{ℕ, zero, suc, ◌+◌, ◌*◌, ◌^◌}
use native.Mathlib.Omega.{arith}
use mathlib.Core.Path.{◌≡◌, refl}
use mathlib.Core.Bool.{Bool, true, false, beq, cond}
use mathlib.Core.Logic.{◌⊎◌, inl, inr}
use lib.IntN.{pos}
use lib.Dec.{T, ltb, eqb, ltb→lt}
use lib.Ieee.{Float, nan, inf, fin, Format, binary64, prec, emax, low, up, down, unlike, odd, units, round, is_nan, lt, le, sum, add, mul}
use Rattle.definition.specs.Number.{plus, times, zero64}
use Rattle.definition.proofs.Order.{NotNan, le_of_under}

-- no NaN, and of the sign s
abbrev pub has_sign : Bool → Float → Bool
has_sign s nan = false
has_sign s (inf t) = beq s t
has_sign s (fin t m e) = beq s t

-- neither a NaN nor negative; neither a NaN nor positive
abbrev pub unsigned : Float → Bool
unsigned x = has_sign false x

abbrev pub signed : Float → Bool
signed x = has_sign true x

beq_refl : (s : Bool) → beq s s ≡ true
beq_refl true = refl
beq_refl false = refl

is_same : (s t : Bool) → T (beq s t) → t ≡ s
is_same true true h = refl
is_same true false h = absurd h
is_same false true h = absurd h
is_same false false h = refl

pub sign_not_nan : (s : Bool) (x : Float) → T (has_sign s x) → NotNan x
unfolding is_nan
sign_not_nan s nan h = h
sign_not_nan s (inf t) h = tt
sign_not_nan s (fin t m e) h = tt

-- ---- against zero

pub unsigned_of_lt : (x : Float) → T (lt zero64 x) → T (unsigned x)
unfolding lt
unsigned_of_lt nan h = h
unsigned_of_lt (inf true) h = h
unsigned_of_lt (inf false) h = tt
unsigned_of_lt (fin true m e) h = h
unsigned_of_lt (fin false m e) h = tt

pub signed_of_lt : (x : Float) → T (lt x zero64) → T (signed x)
unfolding lt
signed_of_lt nan h = h
signed_of_lt (inf true) h = tt
signed_of_lt (inf false) h = h
signed_of_lt (fin true m e) h = tt
signed_of_lt (fin false m e) h = let k = ltb→lt (m * up e * 1) (0 * down e) h in absurd (omega arith)

pub signed_le_zero : (x : Float) → T (signed x) → T (le x zero64)
unfolding le
signed_le_zero nan h = h
signed_le_zero (inf true) h = tt
signed_le_zero (inf false) h = h
signed_le_zero (fin true m e) h = le_of_under true m e false 0 (pos 0) (omega arith)
signed_le_zero (fin false m e) h = absurd h

-- ---- rounding

odd_sign : (d : ℕ) (s : Bool) (q k l : ℕ) → T (has_sign s (odd d s q k l))
unfolding odd
odd_sign d s zero k l = rw beq_refl tt
odd_sign d s (suc q) k l = rw beq_refl tt

units_sign : (f : Format) (s : Bool) (q k : ℕ) → T (has_sign s (units f s q k))
unfolding units
units_sign f s q k = go (ltb (q * 2 ^ k) (2 ^ (low f + suc (emax f))))
  where
    go : (b : Bool) → T (has_sign s (cond b (odd (suc (prec f)) s q k (low f)) (inf s)))
    go true = odd_sign (suc (prec f)) s q k (low f)
    go false = rw beq_refl tt

pub round-sign : (f : Format) (s : Bool) (a b : ℕ) → T (has_sign s (round f s a b))
unfolding round
round-sign f s a b = units_sign f s _ _

-- ---- products and sums

nan_or : (b : Bool) (s : Bool) → (cond b nan (inf s) ≡ nan) ⊎ T (has_sign s (cond b nan (inf s)))
nan_or true s = inl refl
nan_or false s = inr (rw beq_refl tt)

-- The product is a NaN, or its sign is that of its factors.
pub times-sign : (s t : Bool) (x y : Float) → T (has_sign s x) → T (has_sign t y) → (times x y ≡ nan) ⊎ T (has_sign (unlike s t) (times x y))
unfolding mul
times-sign s t nan y p q = absurd p
times-sign s t (inf u) nan p q = absurd q
times-sign s t (inf u) (inf v) p q = rw (is_same s u p, is_same t v q) (nan_or false (unlike s t))
times-sign s t (inf u) (fin v n d) p q = rw (is_same s u p, is_same t v q) (nan_or (eqb n 0) (unlike s t))
times-sign s t (fin u m e) nan p q = absurd q
times-sign s t (fin u m e) (inf v) p q = rw (is_same s u p, is_same t v q) (nan_or (eqb m 0) (unlike s t))
times-sign s t (fin u m e) (fin v n d) p q =
    rw (is_same s u p, is_same t v q) (inr (round-sign binary64 (unlike s t) (m * up e * (n * up d)) (down e * down d)))

pub plus-sign : (s : Bool) (x y : Float) → T (has_sign s x) → T (has_sign s y) → T (has_sign s (plus x y))
unfolding add sum
plus-sign s nan y p q = absurd p
plus-sign s (inf u) nan p q = absurd q
plus-sign s (inf u) (inf v) p q = simp (is_same s u p, is_same s v q, beq_refl) tt
plus-sign s (inf u) (fin v n d) p q = p
plus-sign s (fin u m e) nan p q = absurd q
plus-sign s (fin u m e) (inf v) p q = q
plus-sign s (fin u m e) (fin v n d) p q =
    rw (is_same s u p, is_same s v q, beq_refl s) (round-sign binary64 s (m * up e * down d + n * up d * down e) (down e * down d))
