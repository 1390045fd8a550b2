-- What a test says: of what stands behind it by either branch, and of itself where it passed. Assumes nothing.
use mathlib.Core.Path.{◌≡◌, refl, sym, subst}
use mathlib.Core.Bool.{Bool, true, false, cond, ◌&&◌, ◌||◌}
use lib.Dec.{T}
use lib.Ieee.Fits.{and_l, and_r}

-- by either branch of a test
pub by_test : {A : Type 0} (P : A → Type 0) (t : Bool) {a b : A} → (t ≡ true → P a) → (t ≡ false → P b) → P (cond t a b)
by_test P true f g = f refl
by_test P false f g = g refl

-- what a test that passed says
pub holds : {b : Bool} → b ≡ true → T b
holds e = subst T (sym e) tt

pub both_hold : (a b : Bool) → a && b ≡ true → T a × T b
both_hold a b e = (and_l a b (holds e), and_r a b (holds e))

pub first_true : (a b : Bool) → a && b ≡ true → a ≡ true
first_true true b e = refl
first_true false b e = e

pub second_true : (a b : Bool) → a && b ≡ true → b ≡ true
second_true true b e = e
second_true false b e = cc

pub both_true : (a b : Bool) → a && b ≡ true → (a ≡ true) × (b ≡ true)
both_true a b e = (first_true a b e, second_true a b e)

pub both_false : (a b : Bool) → a || b ≡ false → (a ≡ false) × (b ≡ false)
both_false true b e = (e, cc)
both_false false b e = (refl, e)
