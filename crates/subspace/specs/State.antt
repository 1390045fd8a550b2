-- The minimum over the free coordinates of the Cauchy point, and the direction to the chosen end, read off the area.
use Rattle.std.specs.Prelude.{ℕ, set, ◌-◌, ◌*◌, ◌<◌, ◌≡◌, Bool, cond, ◌&&◌, List, ◌++◌, length, replicate, Float}
use Rattle.std.specs.Prelude.{Option, Some}
use Rattle.std.specs.Float.Ieee as Ieee
use Rattle.definition.specs.Number.{plus, minus, times, over, min, clamp, zero64}
use Rattle.definition.specs.Vector.{tab, word, fold_to, difference, ◌and_then◌}
use Rattle.definition.specs.Problem.{most_coordinates}
use Rattle.definition.specs.Solve.{Matrix, row, entry, solve}
use Rattle.definition.specs.Compact.{count, padded, zero_row, padded_rows, product}
use Rattle.definition.specs.Geometry.{any_free, free_sum, reduced_entry, reduced_right, correction, steps_of, share_of}
use Rattle.definition.specs.Geometry.{moved, moved_by, on_free, primal_minimize}
use Rattle.definition.specs.Machine.{state}
use Rattle.definition.specs.Driver.{Ends, chosen_end}
use Rattle.area.specs.Area.{Vecs, view, bounds_of, upd, given, ScratchOnly, vector_x, vector_g, vector_lower, vector_upper}
use Rattle.area.specs.Area.{vector_direction, vector_cauchy, vector_target, vector_product_d, vector_step}
use Rattle.compact.specs.declared.Shape.{Shape}
use Rattle.compact.specs.declared.Model.{Model}
use Rattle.subspace.specs.declared.Coordinate.{Coordinate}
use Rattle.compact.specs.State.{column_slot, compact_of, Sound, Modelled}

-- the area holds the pairs, and the model is theirs
abbrev pub Ready : Model → List Float → Type 0
Ready m a = Sound m.shape (length a) × Modelled m (view a m.shape.n)

-- ---- at one coordinate

-- strictly between its bounds
abbrev pub free_of : Coordinate → Bool
free_of k = Ieee.lt k.lower k.cauchy && Ieee.lt k.cauchy k.upper

-- how far it lets the step go
abbrev pub shortened_of : Coordinate → Float → Float → Float
shortened_of k step alpha =
    cond (Ieee.lt zero64 step) (min alpha (over (minus k.upper k.cauchy) step))
    (cond (Ieee.lt step zero64) (min alpha (over (minus k.lower k.cauchy) step)) alpha)

abbrev pub shared_of : Coordinate → Float → Float → Float
shared_of k step alpha = cond (free_of k) (shortened_of k step alpha) alpha

abbrev pub free_step_of : Coordinate → Float → Float
free_step_of k step = cond (free_of k) step zero64

abbrev pub moved_of : Coordinate → Float → Float → Float
moved_of k step alpha = cond (free_of k) (clamp (plus k.cauchy (times alpha step)) k.lower k.upper) k.cauchy

-- ---- from the words at one index

abbrev pub coordinate_of : (ℕ → Float) → Coordinate
coordinate_of w = record { cauchy = w vector_cauchy; lower = w vector_lower; upper = w vector_upper }

abbrev pub free_in : (ℕ → Float) → Bool
free_in w = free_of (coordinate_of w)

-- the sum s, and the product of two vectors where the coordinate is free
abbrev pub free_term : ℕ → ℕ → (ℕ → Float) → Float → Float
free_term p q w s = cond (free_in w) (plus s (times (w p) (w q))) s

-- the columns' words
abbrev pub columns_in : Shape → (ℕ → Float) → List Float
columns_in h w = padded zero64 (2 * h.pairs) (λ j. w (column_slot h j))

-- the step that the residual asks for, and with what the columns add to it
abbrev pub plain_in : Float → (ℕ → Float) → Float
plain_in theta w = free_step_of (coordinate_of w) (over (Ieee.neg (w vector_product_d)) theta)

abbrev pub weighted_in : Float → (ℕ → Float) → Float
weighted_in theta w = free_step_of (coordinate_of w) (over (Ieee.neg (plus (w vector_product_d) (over (w vector_step) theta))) theta)

abbrev pub share_in : (ℕ → Float) → Float → Float
share_in w alpha = shared_of (coordinate_of w) (w vector_step) alpha

abbrev pub moved_in : Float → (ℕ → Float) → Float
moved_in alpha w = moved_of (coordinate_of w) (w vector_step) alpha

-- ---- matrices of size rows and columns in an array of 32 rows of 32

abbrev pub grid : ℕ → (ℕ → ℕ → Float) → Matrix
grid size f = padded zero_row size (λ i. padded zero64 size (f i))

-- each entry x of a row, in column j, becomes f j x; and each of every row i, f i j x
unfoldable pub row_each : ℕ → (ℕ → Float → Float) → List Float → List Float
row_each size f r = fold_to size (λ j b. set b j (f j (word b j))) r

unfoldable pub each : ℕ → (ℕ → ℕ → Float → Float) → Matrix → Matrix
each size f a = fold_to size (λ i c. set c i (row_each size (f i) (row c i))) a

-- a closure may be called at each place, and a call, of which P is what it may return, gives f
abbrev pub CallableWithin : (ℕ → ℕ → Float → Type 0) → Type 0
CallableWithin P = (i j : ℕ) (x : Float) → i < 32 → j < 32 → P i j x

abbrev pub Computes : (ℕ → ℕ → Float → Float → Type 0) → (ℕ → ℕ → Float → Float) → Type 0
Computes P f = (i j : ℕ) (x y : Float) → i < 32 → j < 32 → P i j x y → y ≡ f i j x

-- the sum x, and the product of two words of r
abbrev pub product_to : List Float → ℕ → ℕ → Float → Float
product_to r i j x = plus x (times (word r i) (word r j))

-- the sum x, and those products for four rows in turn
abbrev pub four_to : Matrix → ℕ → ℕ → Float → Float
four_to p i j x = product_to (row p 3) i j (product_to (row p 2) i j (product_to (row p 1) i j (product_to (row p 0) i j x)))

-- the sums a, and the products of any two words of each row of p
abbrev pub add_rows : ℕ → Matrix → Matrix → Matrix
add_rows size p a = fold_to (length p) (λ t b. each size (product_to (row p t)) b) a

-- sums a, to which the rows of p, fewer than four, are to be added yet
pub record Held (size : ℕ) (p a : Matrix) : Type 0 where
  pub few : length p < 4
  pub shaped : a ≡ grid size (entry a)

-- the sums a, and the products of any two columns where the coordinate is free
abbrev pub add_free : Shape → (ℕ → Float) → Matrix → Matrix
add_free h w a = cond (free_in w) (each (2 * h.pairs) (product_to (columns_in h w)) a) a

-- the block's entry, less the sum x by theta
abbrev pub reduced_by : Float → Matrix → ℕ → ℕ → Float → Float
reduced_by theta b i j x = minus (entry b i j) (over x theta)

-- ---- the definition's, at the vectors of the area

abbrev pub any_free_at : ℕ → Vecs → Bool
any_free_at n v = any_free n (bounds_of v) (v vector_cauchy)

-- the product of vectors p and q over the free coordinates
abbrev pub free_sum_at : ℕ → Vecs → ℕ → ℕ → Float
free_sum_at n v p q = free_sum n (bounds_of v) (v vector_cauchy) (λ k. times (word (v p) k) (word (v q) k))

-- the reduced system: its entries, its right side, its solution
abbrev pub reduced_at : Shape → Float → Vecs → ℕ → ℕ → Float
reduced_at h theta v i j = reduced_entry h.n (bounds_of v) (v vector_cauchy) (compact_of h theta v) i j

abbrev pub right_at : Shape → Float → Vecs → List Float
right_at h theta v = reduced_right h.n (bounds_of v) (v vector_cauchy) (compact_of h theta v) (v vector_product_d)

abbrev pub weights_at : Shape → Float → Vecs → Option (List Float)
weights_at h theta v = solve (2 * count (compact_of h theta v)) (padded_rows (compact_of h theta v) (reduced_at h theta v)) (right_at h theta v)

-- the product with the displacement, and the residual from it
abbrev pub product_at : Shape → Float → Vecs → Option (List Float)
product_at h theta v = product h.n (compact_of h theta v) (difference h.n (v vector_cauchy) (v vector_x))

abbrev pub residual_from : ℕ → List Float → Option (List Float) → Option (List Float)
residual_from n g o = o and_then λ bz. Some (tab n (λ i. plus (word bz i) (word g i)))

abbrev pub residual_at : Shape → Float → Vecs → Option (List Float)
residual_at h theta v = residual_from h.n (v vector_g) (product_at h theta v)

abbrev pub corrections_at : Shape → Float → Vecs → List Float → List Float
corrections_at h theta v z = tab h.n (correction (compact_of h theta v) z)

-- the steps, and how much of them the bounds leave
abbrev pub steps_at : Shape → Float → Vecs → Option (List Float)
steps_at h theta v = steps_of h.n (bounds_of v) (v vector_cauchy) (compact_of h theta v) (v vector_product_d)

abbrev pub share_at : ℕ → Vecs → Float
share_at n v = share_of n (bounds_of v) (v vector_cauchy) (v vector_step)

-- the target by a share of the steps, by the largest, and with the residual before it
abbrev pub moved_at : ℕ → Vecs → Float → Option (List Float)
moved_at n v alpha = moved n (bounds_of v) (v vector_cauchy) (v vector_step) alpha

abbrev pub moved_by_share_at : ℕ → Vecs → Option (List Float)
moved_by_share_at n v = moved_by n (bounds_of v) (v vector_cauchy) (v vector_step)

abbrev pub free_minimum_at : Shape → Float → Vecs → Option (List Float)
free_minimum_at h theta v = residual_at h theta v and_then on_free h.n (bounds_of v) (v vector_cauchy) (compact_of h theta v)

abbrev pub minimum_at : Shape → Float → Vecs → Option (List Float)
minimum_at h theta v = primal_minimize h.n (bounds_of v) (compact_of h theta v) (v vector_x) (v vector_g) (v vector_cauchy)

-- vector p of b, where ok says that there is one; the Cauchy point is kept, and only scratch is touched
pub record Makes (p : ℕ) (F : Option (List Float)) (a : Vecs) (ok : Bool) (b : Vecs) : Type 0 where
  pub is : given ok (b p) ≡ F
  pub cauchy : b vector_cauchy ≡ a vector_cauchy
  pub kept : ScratchOnly a b

abbrev pub Minimizes : Option (List Float) → Vecs → Bool → Vecs → Type 0
Minimizes F a ok b = Makes vector_target F a ok b

-- ---- the direction

abbrev pub ends_in : Vecs → Ends
ends_in v = record { cauchy = v vector_cauchy; target = v vector_target }

-- p less q, n words each, in an array: zeros behind them
abbrev pub difference_array : ℕ → List Float → List Float → List Float
difference_array n p q = difference n p q ++ replicate (most_coordinates - n) zero64

-- the end that the slope towards the target chooses, less x
abbrev pub direction_array : ℕ → Float → Vecs → List Float
direction_array n slope v = difference_array n (cond (Ieee.le zero64 slope) (v vector_cauchy) (v vector_target)) (v vector_x)

-- from the point held to the chosen end; f is its value, which does not matter here
abbrev pub directed : ℕ → Float → Vecs → Vecs
directed n f v = upd v vector_direction (difference n (chosen_end n (state (v vector_x) f (v vector_g)) (ends_in v)) (v vector_x))
