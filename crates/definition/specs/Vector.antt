-- Vectors are lists, read by index; loops run from index 0 up.
use Rattle.std.specs.Prelude.{ℕ, zero, suc, Bool, true, cond, ◌&&◌, List, [], ◌∷◌, get_or, Float}
use Rattle.std.specs.Prelude.{Option, None, Some}
use Rattle.std.specs.Float.{nan}
use Rattle.std.specs.Float.Ieee.Scale.{finite}
use Rattle.definition.specs.Number.{plus, minus, times, neg_zero, zero64}

-- s, taken through step 0, step 1, .. step (n - 1)
unfoldable pub fold_to : {A : Type 0} → ℕ → (ℕ → A → A) → A → A
fold_to zero step s = s
fold_to (suc n) step s = step n (fold_to n step s)

-- f 0, f 1, .. f (n - 1)
unfoldable pub tab : {A : Type 0} → ℕ → (ℕ → A) → List A
tab zero f = []
tab (suc n) f = f zero ∷ tab n (λ (i : ℕ). f (suc i))

abbrev pub word : List Float → ℕ → Float
word v i = get_or v i nan

abbrev pub zeros : ℕ → List Float
zeros n = tab n (λ i. zero64)

-- f 0 + f 1 + .. + f (n - 1), from the left and from -0
abbrev pub sum : ℕ → (ℕ → Float) → Float
sum n f = fold_to n (λ i s. plus s (f i)) neg_zero

-- the product of the first n places
abbrev pub dot : ℕ → List Float → List Float → Float
dot n a b = sum n (λ i. times (word a i) (word b i))

-- the first n places are finite
abbrev pub all_finite : ℕ → List Float → Bool
all_finite n v = fold_to n (λ i b. b && finite (word v i)) true

-- a - b, place by place
abbrev pub difference : ℕ → List Float → List Float → List Float
difference n a b = tab n (λ i. minus (word a i) (word b i))

-- Rust's `?`: what follows is made of the value, where there is one
infixr 20 ◌and_then◌
abbrev pub ◌and_then◌ : {A B : Type 0} → Option A → (A → Option B) → Option B
None and_then follow = None
Some a and_then follow = follow a

-- the vector, if its first n places are finite
abbrev pub finite_only : ℕ → List Float → Option (List Float)
finite_only n v = cond (all_finite n v) (Some v) None
