-- The steps of an elimination that any right side goes through, and one column's loop on the matrix.
use Rattle.std.specs.Prelude.{ℕ, ◌+◌, ◌-◌, ◌<◌, ◌≡◌, Bool, not, ◌&&◌, List, get_or, set, Float}
use Rattle.std.specs.Float.Ieee as Ieee
use Rattle.std.specs.Float.Ieee.Scale.{finite}
use Rattle.definition.specs.Number.{minus, times, zero64}
use Rattle.definition.specs.Vector.{fold_to, word}
use Rattle.definition.specs.Solve.{Matrix, row, system, swap_words, eliminated}

-- ---- the right side

-- the first d places past k, each less its multiple of place k
unfoldable pub cleared_to : ℕ → ℕ → List Float → List Float → List Float
cleared_to d k m b = fold_to d (λ d b. set b (k + 1 + d) (minus (word b (k + 1 + d)) (times (word m (k + 1 + d)) (word b k)))) b

-- step k: the pivot's place p, then the places past k
abbrev pub stepped : ℕ → ℕ → List Float → ℕ → List Float → List Float
stepped n k m p b = cleared_to (n - (k + 1)) k m (swap_words b k p)

-- the first j steps
unfoldable pub forward_to : ℕ → ℕ → Matrix → List ℕ → List Float → List Float
forward_to j n f p b = fold_to j (λ k x. stepped n k (row f k) (get_or p k 0) x) b

-- each of the first n rows exchanged is one of the 32
abbrev pub OrderInRange : ℕ → List ℕ → Type 0
OrderInRange n p = (k : ℕ) → k < n → get_or p k 0 < 32

-- ---- the matrix

-- a becomes t, with the multipliers m of the rows below row k: so it goes with any right side
pub record Eliminates (n k : ℕ) (a : Matrix) (m : List Float) (t : Matrix) : Type 0 where
  pub is : (b : List Float) → system t (cleared_to (n - (k + 1)) k m b) ≡ eliminated n k (system a b)

abbrev pub regular : Float → Bool
regular scale = finite scale && not (Ieee.eq scale zero64)
