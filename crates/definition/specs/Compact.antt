-- `Compact`: the correction pairs, oldest first, and the matrix B = theta I - W M W' that they stand for.
-- `oldest` and `padded` are storage, here because document 01 has it: m places for the pairs "with a number for the oldest", and the middle
-- matrix "an array of 32 rows of 32". No number of the fit rests on them.
use Rattle.std.specs.Prelude.{ℕ, ◌+◌, ◌-◌, ◌*◌, Bool, cond, ◌&&◌, List, [], ◌∷◌, ◌++◌, eqb, ltb, length, get_or, drop, replicate, Float}
use Rattle.std.specs.Prelude.{Option, Some}
use Rattle.std.specs.Float.Ieee as Ieee
use Rattle.std.specs.Float.Ieee.Scale.{finite}
use Rattle.definition.specs.Number.{minus, times, over, zero64, one64, epsilon}
use Rattle.definition.specs.Vector.{fold_to, tab, word, sum, dot, ◌and_then◌, finite_only}
use Rattle.definition.specs.Solve.{Matrix, solve}

-- The Rust keeps s·y beside the pair; here it is `dot` again, the same operations on the same words.
pub record Pair : Type 0 where
  pub s : List Float
  pub y : List Float

-- `oldest`: the place of the oldest pair
pub record Compact : Type 0 where
  pub pairs : List Pair
  pub theta : Float
  pub oldest : ℕ

-- `Compact::new`
abbrev pub no_pairs : Compact
no_pairs = record { pairs = []; theta = one64; oldest = 0 }

abbrev pub count : Compact → ℕ
count c = length c.pairs

abbrev pub pair_of : List Pair → ℕ → Pair
pair_of ps k = get_or ps k (record { s = []; y = [] })

-- ---- `update`

abbrev pub curved : Float → Float → Bool
curved sy yy = finite sy && finite yy && Ieee.lt (times epsilon yy) sy

abbrev pub usable : Float → Bool
usable theta = finite theta && Ieee.lt zero64 theta

-- without the oldest, where there are maxcor
abbrev pub make_room : ℕ → List Pair → List Pair
make_room maxcor ps = cond (eqb (length ps) maxcor) (drop 1 ps) ps

-- a place, or how far it lies past the last one
abbrev pub wrap : ℕ → ℕ → ℕ
wrap maxcor i = cond (ltb i maxcor) i (i - maxcor)

abbrev pub oldest_after : ℕ → Compact → ℕ
oldest_after maxcor c = cond (eqb (count c) maxcor) (wrap maxcor (c.oldest + 1)) c.oldest

abbrev pub pushed : ℕ → Compact → Pair → Float → Compact
pushed maxcor c p theta = record { pairs = make_room maxcor c.pairs ++ (p ∷ []); theta = theta; oldest = oldest_after maxcor c }

-- the old pairs and theta stay unless the new pair is accepted
unfoldable pub update : ℕ → ℕ → Compact → List Float → List Float → Compact
update n maxcor c s y =
    let sy = dot n s y in
    let yy = dot n y y in
    let theta = over yy sy in
    cond (curved sy yy && usable theta) (pushed maxcor c (record { s = s; y = y }) theta) c

-- ---- `columns_and_block`

-- word i of column k of W = [Y, theta S]: the y of each pair, then theta times the s of each
unfoldable pub column_word : Compact → ℕ → ℕ → Float
column_word c k i =
    cond (ltb k (count c)) (word (pair_of c.pairs k).y i) (times c.theta (word (pair_of c.pairs (k - count c)).s i))

-- [-D, L'; L, theta S'S]: by the row's half and the column's
unfoldable pub diagonal_entry : ℕ → List Pair → ℕ → ℕ → Float
diagonal_entry n ps i j = cond (eqb i j) (Ieee.neg (dot n (pair_of ps i).s (pair_of ps j).y)) zero64

unfoldable pub lower_entry : ℕ → List Pair → ℕ → ℕ → Float
lower_entry n ps i j = cond (ltb j i) (dot n (pair_of ps i).s (pair_of ps j).y) zero64

unfoldable pub block_entry : ℕ → Compact → ℕ → ℕ → Float
block_entry n c i j =
    let ps = c.pairs in
    let m = length ps in
    cond (ltb i m)
    (cond (ltb j m) (diagonal_entry n ps i j) (lower_entry n ps (j - m) i))
    (cond (ltb j m) (lower_entry n ps (i - m) j) (times c.theta (dot n (pair_of ps (i - m)).s (pair_of ps (j - m)).s)))

-- f 0, .. f (size - 1), and z up to 32 places
unfoldable pub padded : {A : Type 0} → A → ℕ → (ℕ → A) → List A
padded z size f = tab size f ++ replicate (32 - size) z

abbrev pub zero_row : List Float
zero_row = replicate 32 zero64

-- a matrix of 2 rows and columns for each pair
abbrev pub padded_rows : Compact → (ℕ → ℕ → Float) → Matrix
padded_rows c f = padded zero_row (2 * count c) (λ i. padded zero64 (2 * count c) (f i))

abbrev pub block : ℕ → Compact → Matrix
block n c = padded_rows c (block_entry n c)

-- ---- `times`: B v

abbrev pub column_dot : ℕ → Compact → ℕ → List Float → Float
column_dot n c k v = sum n (λ i. times (column_word c k i) (word v i))

abbrev pub right_side : ℕ → Compact → List Float → List Float
right_side n c v = padded zero64 (2 * count c) (λ k. column_dot n c k v)

-- the weights of the columns; where there is no pair there is none to weigh
unfoldable pub weights : ℕ → Compact → List Float → Option (List Float)
weights n c v = cond (eqb (count c) 0) (Some zero_row) (solve (2 * count c) (block n c) (right_side n c v))

-- word i of theta v, less each column with its weight
unfoldable pub less_word : Compact → List Float → List Float → ℕ → Float
less_word c z v i = fold_to (2 * count c) (λ k r. minus r (times (word z k) (column_word c k i))) (times c.theta (word v i))

unfoldable pub product : ℕ → Compact → List Float → Option (List Float)
product n c v = weights n c v and_then λ z. finite_only n (tab n (less_word c z v))
