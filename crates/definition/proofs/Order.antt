-- The order of floats: transitive; reflexive, total and antisymmetric (up to `eq`) where there
-- is no NaN; turned round by `neg`; and `clamp` stays within its bounds.
-- The comparison of two finite floats is one inequality of natural numbers, `Under`. Assumes nothing.
use Prim.Native.Nat.{ℕ, ◌+◌, ◌*◌, ◌≤◌, ◌<◌}
use native.Mathlib.Nat.{le_refl as ≤-refl, le_of_mul-le-mul_right, mul-le-mul_right}
use native.Mathlib.Omega.{arith}
use mathlib.Core.Path.{◌≡◌, refl, subst, sym}
use mathlib.Core.Bool.{Bool, true, false, not, ◌&&◌, ◌||◌, cond}
use mathlib.Core.Logic.{◌⊎◌, inl, inr}
use borrow.Author.Tests.{ltb-false}
use lib.IntN.{ℤ}
use lib.Dec.{T, ltb, eqb, ltb→lt, eqb→eq}
use lib.Ieee.{Float, nan, inf, fin, up, down, is_nan, below, level, lt, eq, le, neg}
use lib.Ieee.Fits.{and_i, and_l, and_r, eq→eqb, down_pos}
use Rattle.definition.specs.Number.{clamp, infinity, neg_infinity}

abbrev pub NotNan : Float → Type 0
NotNan x = T (not (is_nan x))

-- ---- finite floats

-- A magnitude with its sign is a gain less a loss.
abbrev pub gain : Bool → ℕ → ℕ
gain false a = a
gain true a = 0

abbrev pub loss : Bool → ℕ → ℕ
loss false a = 0
loss true a = a

-- ±a / p ≤ ±b / q
abbrev pub Under : Bool → ℕ → ℕ → Bool → ℕ → ℕ → Type 0
Under s a p t b q = gain s a * q + loss t b * p ≤ gain t b * p + loss s a * q

-- A comparison passes by the order of the magnitudes, and where that test fails by their equality, or because both are zero.
or_level : (t : Bool) (a b : ℕ) → (t ≡ false → a ≡ b) → T (t || (eqb a b && true))
or_level true a b h = tt
or_level false a b h = and_i (eqb a b) true (eq→eqb (h refl)) tt

or_zeros : (t : Bool) (a b : ℕ) → (t ≡ false → a + b ≤ 0) → T (t || (eqb a b && eqb a 0))
or_zeros true a b h = tt
or_zeros false a b h = let k = h refl in and_i (eqb a b) (eqb a 0) (eq→eqb {a = a} {b = b} (omega arith)) (eq→eqb {a = a} {b = 0} (omega arith))

level_or : {C : Type 0} (t : Bool) (a b : ℕ) → (T t → C) → (a ≡ b → C) → T (t || (eqb a b && true)) → C
level_or true a b f g h = f tt
level_or false a b f g h = g (eqb→eq a b (and_l (eqb a b) true h))

zeros : (a b : ℕ) → T (eqb a b && eqb a 0) → a + b ≤ 0
zeros a b h = omega (arith, eqb→eq a b (and_l (eqb a b) (eqb a 0) h), eqb→eq a 0 (and_r (eqb a b) (eqb a 0) h))

module _ (a p b q : ℕ) where
  tests_of_under : (s t : Bool) → Under s a p t b q → T (below s (a * q) t (b * p) || level s (a * q) t (b * p))
  tests_of_under false false h = or_level (ltb (a * q) (b * p)) (a * q) (b * p) (λ e. omega (arith, ltb-false))
  tests_of_under false true h = or_zeros false (a * q) (b * p) (λ e. omega arith)
  tests_of_under true false h = or_zeros (ltb 0 (a * q + b * p)) (a * q) (b * p) (ltb-false 0 (a * q + b * p))
  tests_of_under true true h = or_level (ltb (b * p) (a * q)) (a * q) (b * p) (λ e. omega (arith, ltb-false))

  under_of_tests : (s t : Bool) → T (below s (a * q) t (b * p) || level s (a * q) t (b * p)) → Under s a p t b q
  under_of_tests false false h = level_or (ltb (a * q) (b * p)) (a * q) (b * p) (λ k. omega (arith, ltb→lt)) (λ k. omega arith) h
  under_of_tests false true h = omega (arith, zeros (a * q) (b * p) h)
  under_of_tests true false h = omega arith
  under_of_tests true true h = level_or (ltb (b * p) (a * q)) (a * q) (b * p) (λ k. omega (arith, ltb→lt)) (λ k. omega arith) h

  under_of_failed : (s t : Bool) → below s (a * q) t (b * p) ≡ false → Under t b q s a p
  under_of_failed false false h = omega (arith, ltb-false)
  under_of_failed false true h = omega arith
  under_of_failed true false h = omega (arith, ltb-false)
  under_of_failed true true h = omega (arith, ltb-false)

  level_of_unders : (s t : Bool) → Under s a p t b q → Under t b q s a p → T (level s (a * q) t (b * p))
  level_of_unders false false h k = or_level false (a * q) (b * p) (λ e. omega arith)
  level_of_unders false true h k = or_zeros false (a * q) (b * p) (λ e. omega arith)
  level_of_unders true false h k = or_zeros false (a * q) (b * p) (λ e. omega arith)
  level_of_unders true true h k = or_level false (a * q) (b * p) (λ e. omega arith)

  under_neg : (s t : Bool) → Under s a p t b q → Under (not t) b q (not s) a p
  under_neg false false h = omega arith
  under_neg false true h = omega arith
  under_neg true false h = omega arith
  under_neg true true h = omega arith

  under_trans : (s t u : Bool) (c r : ℕ) → 0 < q → Under s a p t b q → Under t b q u c r → Under s a p u c r
  under_trans s t u c r Q h k = le_of_mul-le-mul_right {k = q} (omega (arith, mul-le-mul_right r h, mul-le-mul_right p k)) Q

module _ (s : Bool) (m : ℕ) (e : ℤ) (t : Bool) (n : ℕ) (d : ℤ) where
  pub le_of_under : Under s (m * up e) (down e) t (n * up d) (down d) → T (le (fin s m e) (fin t n d))
  unfolding le
  le_of_under h = tests_of_under (m * up e) (down e) (n * up d) (down d) s t h

  pub under_of_le : T (le (fin s m e) (fin t n d)) → Under s (m * up e) (down e) t (n * up d) (down d)
  unfolding le
  under_of_le h = under_of_tests (m * up e) (down e) (n * up d) (down d) s t h

-- ---- floats

pub neg_infinity-le : (x : Float) → NotNan x → T (le neg_infinity x)
unfolding le is_nan
neg_infinity-le nan h = h
neg_infinity-le (inf true) h = tt
neg_infinity-le (inf false) h = tt
neg_infinity-le (fin s m e) h = tt

pub le_infinity : (x : Float) → NotNan x → T (le x infinity)
unfolding le is_nan
le_infinity nan h = h
le_infinity (inf true) h = tt
le_infinity (inf false) h = tt
le_infinity (fin s m e) h = tt

pub nothing_above_infinity : (x : Float) → T (le infinity x) → x ≡ infinity
unfolding le
nothing_above_infinity nan h = absurd h
nothing_above_infinity (inf true) h = absurd h
nothing_above_infinity (inf false) h = refl
nothing_above_infinity (fin s m e) h = absurd h

nothing_below_neg_infinity : (x : Float) → T (le x neg_infinity) → x ≡ neg_infinity
unfolding le
nothing_below_neg_infinity nan h = absurd h
nothing_below_neg_infinity (inf true) h = refl
nothing_below_neg_infinity (inf false) h = absurd h
nothing_below_neg_infinity (fin s m e) h = absurd h

-- With a NaN no order holds.
pub le_left_not_nan : (x y : Float) → T (le x y) → NotNan x
unfolding le is_nan
le_left_not_nan nan y h = h
le_left_not_nan (inf s) y h = tt
le_left_not_nan (fin s m e) y h = tt

pub le_right_not_nan : (x y : Float) → T (le x y) → NotNan y
unfolding le is_nan
le_right_not_nan nan y h = absurd h
le_right_not_nan (inf s) nan h = h
le_right_not_nan (fin s m e) nan h = h
le_right_not_nan (inf s) (inf t) h = tt
le_right_not_nan (inf s) (fin t n d) h = tt
le_right_not_nan (fin s m e) (inf t) h = tt
le_right_not_nan (fin s m e) (fin t n d) h = tt

pub le_refl : (x : Float) → NotNan x → T (le x x)
unfolding le is_nan
le_refl nan h = h
le_refl (inf true) h = tt
le_refl (inf false) h = tt
le_refl (fin s m e) h = le_of_under s m e s m e (≤-refl _)

pub le_trans : (x y z : Float) → T (le x y) → T (le y z) → T (le x z)
unfolding le
le_trans nan y z h k = absurd h
le_trans (inf true) y z h k = neg_infinity-le z (le_right_not_nan y z k)
le_trans (inf false) y z h k = rw (nothing_above_infinity y h) at k
le_trans (fin s m e) nan z h k = absurd h
le_trans (fin s m e) (inf true) z h k = absurd h
le_trans (fin s m e) (inf false) z h k = rw (nothing_above_infinity z k) tt
le_trans (fin s m e) (fin t n d) nan h k = absurd k
le_trans (fin s m e) (fin t n d) (inf true) h k = absurd k
le_trans (fin s m e) (fin t n d) (inf false) h k = tt
le_trans (fin s m e) (fin t n d) (fin u l g) h k =
    le_of_under s m e u l g
    (under_trans (m * up e) (down e) (n * up d) (down d) s t u (l * up g) (down g) (down_pos d) (under_of_le s m e t n d h) (under_of_le t n d u l g k))

pub le_of_not_lt : (x y : Float) → NotNan x → NotNan y → lt x y ≡ false → T (le y x)
unfolding le is_nan
le_of_not_lt nan y p q h = absurd p
le_of_not_lt (inf true) nan p q h = absurd q
le_of_not_lt (inf true) (inf true) p q h = tt
le_of_not_lt (inf true) (inf false) p q h = subst T h tt
le_of_not_lt (inf true) (fin t n d) p q h = subst T h tt
le_of_not_lt (inf false) y p q h = le_infinity y q
le_of_not_lt (fin s m e) nan p q h = absurd q
le_of_not_lt (fin s m e) (inf true) p q h = tt
le_of_not_lt (fin s m e) (inf false) p q h = subst T h tt
le_of_not_lt (fin s m e) (fin t n d) p q h = le_of_under t n d s m e (under_of_failed (m * up e) (down e) (n * up d) (down d) s t h)

pub le_of_lt : (x y : Float) → T (lt x y) → T (le x y)
unfolding le
le_of_lt x y h = go (lt x y) h
  where
    go : (t : Bool) → T t → T (t || eq x y)
    go true k = tt
    go false k = absurd k

pub le_total : (x y : Float) → NotNan x → NotNan y → T (le x y) ⊎ T (le y x)
le_total x y p q = go (lt x y) refl
  where
    go : (t : Bool) → lt x y ≡ t → T (le x y) ⊎ T (le y x)
    go true e = inl (le_of_lt x y (subst T (sym e) tt))
    go false e = inr (le_of_not_lt x y p q e)

pub le_antisymm : (x y : Float) → T (le x y) → T (le y x) → T (eq x y)
unfolding le
le_antisymm nan y h k = absurd h
le_antisymm (inf true) y h k = rw (nothing_below_neg_infinity y k) tt
le_antisymm (inf false) y h k = rw (nothing_above_infinity y h) tt
le_antisymm (fin s m e) nan h k = absurd h
le_antisymm (fin s m e) (inf true) h k = absurd h
le_antisymm (fin s m e) (inf false) h k = absurd k
le_antisymm (fin s m e) (fin t n d) h k =
    level_of_unders (m * up e) (down e) (n * up d) (down d) s t (under_of_le s m e t n d h) (under_of_le t n d s m e k)

neg_not_nan : (x : Float) → NotNan x → NotNan (neg x)
unfolding is_nan neg
neg_not_nan nan h = h
neg_not_nan (inf s) h = tt
neg_not_nan (fin s m e) h = tt

pub le-neg : (x y : Float) → T (le x y) → T (le (neg y) (neg x))
unfolding le neg
le-neg nan y h = absurd h
le-neg (inf true) y h = le_infinity (neg y) (neg_not_nan y (le_right_not_nan neg_infinity y h))
le-neg (inf false) y h = rw (nothing_above_infinity y h) tt
le-neg (fin s m e) nan h = absurd h
le-neg (fin s m e) (inf true) h = absurd h
le-neg (fin s m e) (inf false) h = tt
le-neg (fin s m e) (fin t n d) h =
    le_of_under (not t) n d (not s) m e (under_neg (m * up e) (down e) (n * up d) (down d) s t (under_of_le s m e t n d h))

pub clamp_within : (x low high : Float) → NotNan x → T (le low high) → T (le low (clamp x low high)) × T (le (clamp x low high) high)
clamp_within x low high p h = go (lt x low) (lt high x) (le_of_not_lt x low p q) (le_of_not_lt high x r p)
  where
    q : NotNan low
    q = le_left_not_nan low high h

    r : NotNan high
    r = le_right_not_nan low high h

    go : (a b : Bool) → (a ≡ false → T (le low x)) → (b ≡ false → T (le x high))
        → T (le low (cond a low (cond b high x))) × T (le (cond a low (cond b high x)) high)
    go true b f g = (le_refl low q, h)
    go false true f g = (h, le_refl high r)
    go false false f g = (f refl, g refl)
