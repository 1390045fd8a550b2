-- `solve`: Gauss elimination, the pivot of each column being its entry of largest magnitude, and of several the last.
-- It reads and writes the first n rows and columns only; what stands past them stays.
use Rattle.std.specs.Prelude.{ℕ, ◌+◌, ◌-◌, Bool, not, cond, ◌&&◌, List, [], length, get_or, set, replicate, Float}
use Rattle.std.specs.Prelude.{Option, None, Some}
use Rattle.std.specs.Float.Ieee as Ieee
use Rattle.std.specs.Float.Ieee.Scale.{finite}
use Rattle.definition.specs.Number.{minus, times, over, abs, max, magnitude_le, zero64, pivot_threshold}
use Rattle.definition.specs.Vector.{fold_to, word, sum, all_finite, ◌and_then◌, finite_only}

abbrev pub Matrix : Type 0
Matrix = List (List Float)

abbrev pub row : Matrix → ℕ → List Float
row a i = get_or a i []

abbrev pub entry : Matrix → ℕ → ℕ → Float
entry a i j = word (row a i) j

abbrev pub put : Matrix → ℕ → ℕ → Float → Matrix
put a i j x = set a i (set (row a i) j x)

-- the largest magnitude, a NaN passed over
unfoldable pub scale_of : ℕ → Matrix → Float
scale_of n a = fold_to n (λ i most. fold_to n (λ j m. max m (abs (entry a i j))) most) zero64

-- among rows k .. n - 1 the last with the largest entry in column k
unfoldable pub pivot_of : ℕ → Matrix → ℕ → ℕ
pivot_of n a k = fold_to (n - (k + 1)) (λ d best. cond (magnitude_le (entry a best k) (entry a (k + 1 + d) k)) (k + 1 + d) best) k

-- rows k and p change places
abbrev pub swap_rows : Matrix → ℕ → ℕ → Matrix
swap_rows a k p = set (set a k (row a p)) p (row a k)

abbrev pub swap_words : List Float → ℕ → ℕ → List Float
swap_words b k p = set (set b k (word b p)) p (word b k)

-- the matrix with its right side
pub record System : Type 0 where
  pub rows : Matrix
  pub right : List Float

abbrev pub system : Matrix → List Float → System
system a b = record { rows = a; right = b }

abbrev pub swapped : System → ℕ → ℕ → System
swapped s k p = system (swap_rows s.rows k p) (swap_words s.right k p)

-- row i, less f times row k, at the columns past k
unfoldable pub less_row : ℕ → Float → Matrix → ℕ → ℕ → Matrix
less_row n f a k i = fold_to (n - (k + 1)) (λ d c. put c i (k + 1 + d) (minus (entry c i (k + 1 + d)) (times f (entry c k (k + 1 + d))))) a

-- row i and its right side, less the multiple of row k that its entry in column k asks for
abbrev pub less_pivot : ℕ → ℕ → ℕ → System → System
less_pivot n k i s =
    let f = over (entry s.rows i k) (entry s.rows k k) in
    system (less_row n f s.rows k i) (set s.right i (minus (word s.right i) (times f (word s.right k))))

unfoldable pub eliminated : ℕ → ℕ → System → System
eliminated n k s = fold_to (n - (k + 1)) (λ d t. less_pivot n k (k + 1 + d) t) s

-- a pivot that is taken: finite, and above the threshold in magnitude
abbrev pub pivots : Float → Float → Bool
pivots scale d = finite d && not (Ieee.le (abs d) (times pivot_threshold scale))

-- the column's pivot is in row k
unfoldable pub on_column : ℕ → Float → ℕ → System → Option System
on_column n scale k s = cond (pivots scale (entry s.rows k k)) (Some (eliminated n k s)) None

abbrev pub column : ℕ → Float → ℕ → Option System → Option System
column n scale k o = o and_then λ s. on_column n scale k (swapped s k (pivot_of n s.rows k))

unfoldable pub triangular : ℕ → Float → System → Option System
triangular n scale s = fold_to n (column n scale) (Some s)

-- row i of x, those after it being known; the sum starts at -0 and runs up from i + 1
abbrev pub back_row : ℕ → System → ℕ → List Float → List Float
back_row n s i x =
    set x i (over (minus (word s.right i) (sum (n - (i + 1)) (λ d. times (entry s.rows i (i + 1 + d)) (word x (i + 1 + d))))) (entry s.rows i i))

-- from row n - 1 down to row 0
unfoldable pub backward : ℕ → System → List Float
backward n s = fold_to n (λ d x. back_row n s (n - (d + 1)) x) (replicate (length s.right) zero64)

abbrev pub solvable : ℕ → Float → List Float → Bool
solvable n scale b = finite scale && not (Ieee.eq scale zero64) && all_finite n b

unfoldable pub solve : ℕ → Matrix → List Float → Option (List Float)
solve n a b = cond (solvable n (scale_of n a) b) (triangular n (scale_of n a) (system a b) and_then λ s. finite_only n (backward n s)) None
