-- The working area: a list of floats, in which vector k of n words stands at offset k * n.
use Rattle.std.specs.Prelude.{◌≡◌, Bool, true, false, cond, List, ℕ, zero, suc, ◌+◌, ◌*◌, ◌≤◌, ◌<◌, eqb, take, drop, set, Float}
use Rattle.std.specs.Prelude.{Option, None, Some, length}
use Rattle.std.specs.Borrow.{Bor}
use Rattle.definition.specs.Vector.{tab, word, fold_to, difference}
use Rattle.definition.specs.Problem.{Bounds}

-- ---- vectors by their numbers

-- the n words from offset k
unfoldable pub part : List Float → ℕ → ℕ → List Float
part a k n = take n (drop k a)

abbrev pub Vecs : Type 0
Vecs = ℕ → List Float

-- the vectors of an area
unfoldable pub view : List Float → ℕ → Vecs
unfolding part
view a n k = part a (k * n) n

-- s, with v for vector k
abbrev pub upd : Vecs → ℕ → List Float → Vecs
upd s k v = λ (j : ℕ). cond (eqb j k) v (s j)

-- s, with v for word i of vector p
abbrev pub put_word : Vecs → ℕ → ℕ → Float → Vecs
put_word s p i v = upd s p (set (s p) i v)

-- the words at i of all the vectors of an area
abbrev pub words_at : List Float → ℕ → ℕ → ℕ → Float
words_at a n i q = word a (q * n + i)

-- ---- the named vectors, then those of the pairs and the columns

-- Vectors 0 to 7 and the pairs stay from call to call. The others of the first sixteen:
--   8   vector_velocity, then vector_step, then vector_target   scratch
--   9   vector_displacement                                    scratch
--   10  vector_active, then vector_cauchy                      scratch
--   11  vector_product_d, then vector_product_z                scratch
--   12 to 15  free: no function writes them
-- `area/src` says who writes and who reads last where two share a place.

-- the point held and its gradient, the bounds, the start
abbrev pub vector_x : ℕ
vector_x = 0

abbrev pub vector_g : ℕ
vector_g = 1

abbrev pub vector_lower : ℕ
vector_lower = 2

abbrev pub vector_upper : ℕ
vector_upper = 3

abbrev pub vector_x0 : ℕ
vector_x0 = 4

-- the trial point and its gradient, the direction of the search
abbrev pub vector_trial : ℕ
vector_trial = 5

abbrev pub vector_trial_gradient : ℕ
vector_trial_gradient = 6

abbrev pub vector_direction : ℕ
vector_direction = 7

-- scratch from here on: the path's direction, displacement and met bounds
abbrev pub vector_velocity : ℕ
vector_velocity = 8

abbrev pub vector_displacement : ℕ
vector_displacement = 9

abbrev pub vector_active : ℕ
vector_active = 10

-- the Cauchy point and the target
abbrev pub vector_cauchy : ℕ
vector_cauchy = 10

abbrev pub vector_target : ℕ
vector_target = 8

-- two products with B, and the step over the free coordinates
abbrev pub vector_product_d : ℕ
vector_product_d = 11

abbrev pub vector_product_z : ℕ
vector_product_z = 11

abbrev pub vector_step : ℕ
vector_step = 8

-- the first vector behind the scratch ones: free, up to the pairs
abbrev pub first_free : ℕ
first_free = 12

-- the first vector of the pairs
abbrev pub first_pair : ℕ
first_pair = 16

-- s of the pair in place p of the ring; its y stands in the next vector
abbrev pub place_slot : ℕ → ℕ
place_slot p = first_pair + 2 * p

-- behind the m pairs, the first of the 2 m columns
abbrev pub first_column : ℕ → ℕ
first_column m = first_pair + 2 * m

-- how many vectors there are with m pairs
abbrev pub vectors : ℕ → ℕ
vectors m = first_pair + 4 * m

-- the free vectors are as they were
abbrev pub FreeKept : Vecs → Vecs → Type 0
FreeKept a b = (q : ℕ) → first_free ≤ q → q < first_pair → b q ≡ a q

-- every vector but the scratch ones is as it was
pub record ScratchOnly (a b : Vecs) : Type 0 where
  pub low : (q : ℕ) → q < 8 → b q ≡ a q
  pub free : FreeKept a b
  pub high : (q : ℕ) → first_pair ≤ q → b q ≡ a q

-- the start and the free vectors are as they were: no step writes them
pub record Saved (a b : Vecs) : Type 0 where
  pub x0 : b vector_x0 ≡ a vector_x0
  pub free : FreeKept a b

-- the bounds
abbrev pub bounds_of : Vecs → Bounds
bounds_of v = record { lower = v vector_lower; upper = v vector_upper }

-- ---- loops over the index

-- f 0, .. f (n - 1) stored from offset at on
unfoldable pub fill : List Float → ℕ → ℕ → (ℕ → Float) → List Float
fill a at zero f = a
fill a at (suc n) f = set (fill a at n f) (at + n) (f n)

-- s, with vector p made word by word: word i is g of i and of the words at i of all the vectors
unfoldable pub rowwise : ℕ → ℕ → (ℕ → (ℕ → Float) → Float) → Vecs → Vecs
rowwise n p g s = upd s p (tab n (λ (i : ℕ). g i (λ (q : ℕ). word (s q) i)))

-- what is asked of a closure that makes word i of a vector of n words from an area of l words and i: that it can be called
abbrev pub CallableAt : (Bor (List Float) → ℕ → Type 0) → ℕ → ℕ → Type 0
CallableAt P n l = (a : Bor (List Float)) (i : ℕ) → length a.now ≡ l → i < n → P a i

-- and what it gives: g of i and of the words at i of all the vectors
abbrev pub GivesEach : (Bor (List Float) → ℕ → Float → Type 0) → ℕ → ℕ → (ℕ → (ℕ → Float) → Float) → Type 0
GivesEach P n l g = (a : Bor (List Float)) (i : ℕ) (y : Float) → length a.now ≡ l → i < n → P a i y → y ≡ g i (words_at a.now n i)

-- z, taken through h at the words of each index in turn
unfoldable pub fold_rows : {A : Type 0} → A → (ℕ → (ℕ → Float) → A → A) → ℕ → Vecs → A
fold_rows z h n s = fold_to n (λ (i : ℕ). h i (λ (q : ℕ). word (s q) i)) z

-- ---- what the functions make

-- p := q
abbrev pub copy_of : ℕ → ℕ → Vecs → Vecs
copy_of p q s = upd s p (s q)

-- p := v in each word
unfoldable pub fill_of : ℕ → ℕ → Float → Vecs → Vecs
fill_of n p v = rowwise n p (λ i w. v)

-- p := q - r
unfoldable pub difference_of : ℕ → ℕ → ℕ → ℕ → Vecs → Vecs
difference_of n p q r s = upd s p (difference n (s q) (s r))

-- a vector where there is one
abbrev pub given : Bool → List Float → Option (List Float)
given true v = Some v
given false v = None
