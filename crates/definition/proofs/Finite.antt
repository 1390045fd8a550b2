-- A finite sum, difference or product has finite terms, and so have `sum` and `dot`; which results are no NaN. Assumes nothing.
use Prim.Native.Nat.{ℕ, ◌+◌, ◌-◌, ◌*◌, ◌<◌}
use mathlib.Core.Path.{◌≡◌, subst}
use mathlib.Core.Bool.{Bool, true, false, ◌&&◌, beq, cond}
use mathlib.Core.List.{List}
use lib.Dec.{T, ltb, eqb, not_T}
use lib.Ieee as Ieee
use lib.Ieee.{Float, nan, inf, fin, binary64, up, down, is_nan, neg, round, unlike}
use lib.Ieee.Bits.{is_false}
use lib.Ieee.Fits.{and_l, and_r}
use lib.Ieee.Scale.{finite}
use Rattle.definition.specs.Number.{plus, minus, times, clamp, neg_zero}
use Rattle.definition.specs.Vector.{word, sum, dot, all_finite}
use Rattle.definition.proofs.Order.{NotNan}
use Rattle.definition.proofs.Sign.{sign_not_nan, round-sign}
use Rattle.definition.proofs.Vectors.{fold_to_each}

-- ---- finite results

either_way : (b : Bool) (x y : Float) → (T (finite x) → ⊥) → (T (finite y) → ⊥) → T (finite (cond b x y)) → ⊥
either_way true x y f g h = f h
either_way false x y f g h = g h

plus_terms_finite : (x y : Float) → T (finite (plus x y)) → T (finite x) × T (finite y)
unfolding Ieee.add
plus_terms_finite nan y h = absurd h
plus_terms_finite (inf s) nan h = absurd h
plus_terms_finite (inf s) (inf t) h = absurd (either_way (beq s t) (inf s) nan (λ k. k) (λ k. k) h)
plus_terms_finite (inf s) (fin t n d) h = absurd h
plus_terms_finite (fin s m e) nan h = absurd h
plus_terms_finite (fin s m e) (inf t) h = absurd h
plus_terms_finite (fin s m e) (fin t n d) h = (tt, tt)

neg_finite : (x : Float) → T (finite (neg x)) → T (finite x)
unfolding neg
neg_finite nan h = h
neg_finite (inf s) h = h
neg_finite (fin s m e) h = tt

pub minus_terms_finite : (x y : Float) → T (finite (minus x y)) → T (finite x) × T (finite y)
unfolding Ieee.sub
minus_terms_finite x y h = let k = plus_terms_finite x (neg y) h in (k.0, neg_finite y k.1)

times_factors_finite : (x y : Float) → T (finite (times x y)) → T (finite x) × T (finite y)
unfolding Ieee.mul
times_factors_finite nan y h = absurd h
times_factors_finite (inf s) nan h = absurd h
times_factors_finite (inf s) (inf t) h = absurd h
times_factors_finite (inf s) (fin t n d) h = absurd (either_way (eqb n 0) nan (inf (unlike s t)) (λ k. k) (λ k. k) h)
times_factors_finite (fin s m e) nan h = absurd h
times_factors_finite (fin s m e) (inf t) h = absurd (either_way (eqb m 0) nan (inf (unlike s t)) (λ k. k) (λ k. k) h)
times_factors_finite (fin s m e) (fin t n d) h = (tt, tt)

-- ---- vectors

pub sum_terms_finite : (n : ℕ) (f : ℕ → Float) → T (finite (sum n f)) → (i : ℕ) → i < n → T (finite (f i))
sum_terms_finite n f h i l =
    fold_to_each (λ (s : Float). T (finite s)) (λ (j : ℕ). T (finite (f j))) (λ j s. plus s (f j)) neg_zero (λ j s k. plus_terms_finite s (f j) k) n h i l

pub sum_not_finite : (n : ℕ) (f : ℕ → Float) (i : ℕ) → i < n → finite (f i) ≡ false → finite (sum n f) ≡ false
sum_not_finite n f i l e = is_false (finite (sum n f)) (not_T (finite (sum n f)) (λ h. subst T e (sum_terms_finite n f h i l)))

dot_products_finite : (n : ℕ) (a b : List Float) → T (finite (dot n a b)) → (i : ℕ) → i < n → T (finite (times (word a i) (word b i)))
dot_products_finite n a b h i l = sum_terms_finite n (λ j. times (word a j) (word b j)) h i l

pub dot_factors_finite : (n : ℕ) (a b : List Float) → T (finite (dot n a b)) → (i : ℕ) → i < n → T (finite (word a i)) × T (finite (word b i))
dot_factors_finite n a b h i l = times_factors_finite (word a i) (word b i) (dot_products_finite n a b h i l)

pub words_finite : (n : ℕ) (v : List Float) → T (all_finite n v) → (i : ℕ) → i < n → T (finite (word v i))
words_finite n v h i l =
    fold_to_each T (λ (j : ℕ). T (finite (word v j))) (λ j b. b && finite (word v j)) true
    (λ j b k. (and_l b (finite (word v j)) k, and_r b (finite (word v j)) k)) n h i l

-- ---- results that are no NaN

pub finite_not_nan : (x : Float) → T (finite x) → NotNan x
unfolding is_nan
finite_not_nan nan h = h
finite_not_nan (inf s) h = tt
finite_not_nan (fin s m e) h = tt

round_not_nan : (s : Bool) (a b : ℕ) → NotNan (round binary64 s a b)
round_not_nan s a b = sign_not_nan s (round binary64 s a b) (round-sign binary64 s a b)

cond_not_nan : (t : Bool) (x y : Float) → NotNan x → NotNan y → NotNan (cond t x y)
cond_not_nan true x y p q = p
cond_not_nan false x y p q = q

pub clamp_not_nan : (x low high : Float) → NotNan x → NotNan low → NotNan high → NotNan (clamp x low high)
clamp_not_nan x low high p q r = cond_not_nan (Ieee.lt x low) low (cond (Ieee.lt high x) high x) q (cond_not_nan (Ieee.lt high x) high x r p)

sum_not_nan : (s : Bool) (a : ℕ) (t : Bool) (b c : ℕ) → NotNan (Ieee.sum binary64 s a t b c)
unfolding Ieee.sum
sum_not_nan s a t b c =
    cond_not_nan (beq s t) _ _ (round_not_nan s (a + b) c)
    (cond_not_nan (ltb a b) _ _ (round_not_nan t (b - a) c) (round_not_nan (s && ltb b a) (a - b) c))

pub plus_not_nan : (x y : Float) → T (finite x) → NotNan y → NotNan (plus x y)
unfolding Ieee.add is_nan
plus_not_nan nan y p q = absurd p
plus_not_nan (inf s) y p q = absurd p
plus_not_nan (fin s m e) nan p q = q
plus_not_nan (fin s m e) (inf t) p q = tt
plus_not_nan (fin s m e) (fin t n d) p q = sum_not_nan s (m * up e * down d) t (n * up d * down e) (down e * down d)

pub times_not_nan : (x y : Float) → T (finite x) → T (finite y) → NotNan (times x y)
unfolding Ieee.mul
times_not_nan nan y p q = absurd p
times_not_nan (inf s) y p q = absurd p
times_not_nan (fin s m e) nan p q = absurd q
times_not_nan (fin s m e) (inf t) p q = absurd q
times_not_nan (fin s m e) (fin t n d) p q = round_not_nan (unlike s t) (m * up e * (n * up d)) (down e * down d)
