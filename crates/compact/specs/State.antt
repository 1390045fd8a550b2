-- The correction pairs as a ring of m places in the area, and the definition's `Compact` read off it.
use Rattle.std.specs.Prelude.{ℕ, ◌+◌, ◌*◌, ◌≤◌, ◌<◌, ◌≡◌, Bool, cond, ◌&&◌, List, ltb, Float, Option, None, Some}
use Rattle.definition.specs.Number.{times, over, minus, zero64}
use Rattle.definition.specs.Vector.{tab, fold_to, word}
use Rattle.definition.specs.Problem.{most_pairs}
use Rattle.definition.specs.Solve.{Matrix}
use Rattle.definition.specs.Compact as C
use Rattle.definition.specs.Compact.{wrap}
use Rattle.area.specs.Area.{Vecs, view, upd, given, vector_velocity, vector_displacement, first_pair, place_slot, first_column, vectors}
use Rattle.solve.specs.Factors.{Factored}
use Rattle.compact.specs.declared.Shape.{Shape}
use Rattle.compact.specs.declared.Model.{Model}

-- ---- where the pairs stand

-- pair k, oldest first: s, and y in the next vector
abbrev pub pair_slot : Shape → ℕ → ℕ
pair_slot h k = place_slot (wrap h.m (h.oldest + k))

-- column k of W, past the pairs
abbrev pub column_slot : Shape → ℕ → ℕ
column_slot h k = first_column h.m + k

abbrev pub pair_at : Shape → Vecs → ℕ → C.Pair
pair_at h v k = record { s = v (pair_slot h k); y = v (pair_slot h k + 1) }

unfoldable pub pairs_of : Shape → Vecs → List C.Pair
pairs_of h v = tab h.pairs (pair_at h v)

abbrev pub compact_of : Shape → Float → Vecs → C.Compact
compact_of h theta v = record { pairs = pairs_of h v; theta = theta; oldest = h.oldest }

-- the ring's numbers lie in range, and there is room for the vectors
pub record Sound (h : Shape) (size : ℕ) : Type 0 where
  pub few : h.m ≤ most_pairs
  pub most : h.pairs ≤ h.m
  pub ring : h.oldest < h.m
  pub all : vectors h.m * h.n ≤ size

-- r is the slot of the s of pair k, and the y is in the next
pub record Slot (h : Shape) (k r : ℕ) : Type 0 where
  pub is : r ≡ pair_slot h k
  pub s : (v : Vecs) → v r ≡ (C.pair_of (pairs_of h v) k).s
  pub y : (v : Vecs) → v (r + 1) ≡ (C.pair_of (pairs_of h v) k).y
  pub first : (size : ℕ) → Sound h size → r * h.n + h.n ≤ size
  pub second : (size : ℕ) → Sound h size → (r + 1) * h.n + h.n ≤ size
  pub low : r + 2 ≤ first_column h.m

-- ---- `update`

abbrev pub pushed_shape : Shape → Shape
pushed_shape h = record {
  n = h.n;
  m = h.m;
  pairs = cond (ltb h.pairs h.m) (h.pairs + 1) h.pairs;
  oldest = cond (ltb h.pairs h.m) h.oldest (wrap h.m (h.oldest + 1));
}

-- the vectors below the pairs are as they were
abbrev pub FixedKept : Vecs → Vecs → Type 0
FixedKept a b = (q : ℕ) → q < first_pair → b q ≡ a q

-- the new theta, where a pair with these products is accepted
abbrev pub accepted_of : Float → Float → Option Float
accepted_of sy yy = cond (C.curved sy yy && C.usable (over yy sy)) (Some (over yy sy)) None

-- g with the vectors b is h with a, the pair of the two scratch vectors pushed
pub record Pushed (h : Shape) (a : Vecs) (g : Shape) (b : Vecs) : Type 0 where
  pub sound : (size : ℕ) → Sound h size → Sound g size
  pub n : g.n ≡ h.n
  pub m : g.m ≡ h.m
  pub is : (old theta : Float)
      → compact_of g theta b ≡ C.pushed h.m (compact_of h old a) (record { s = a vector_velocity; y = a vector_displacement }) theta
  pub kept : FixedKept a b

pub record Updated (h : Shape) (old : Float) (a : Vecs) (g : Shape) (theta : Float) (b : Vecs) : Type 0 where
  pub sound : (size : ℕ) → Sound h size → Sound g size
  pub n : g.n ≡ h.n
  pub m : g.m ≡ h.m
  pub is : compact_of g theta b ≡ C.update h.n h.m (compact_of h old a) (a vector_velocity) (a vector_displacement)
  pub kept : FixedKept a b

-- ---- columns, block and product

-- the columns of W stand in their slots
pub record Laid (h : Shape) (theta : Float) (v : Vecs) : Type 0 where
  pub is : (k : ℕ) → k < 2 * h.pairs → v (column_slot h k) ≡ tab h.n (C.column_word (compact_of h theta v) k)

-- every vector below the columns is as it was
abbrev pub PairsKept : Shape → Vecs → Vecs → Type 0
PairsKept h a b = (q : ℕ) → q < first_column h.m → b q ≡ a q

-- the first k rows of the block, in an array of 32
abbrev pub block_to : Shape → Float → Vecs → ℕ → Matrix
block_to h theta v k = C.padded C.zero_row k (λ (i : ℕ). C.padded zero64 (2 * h.pairs) (C.block_entry h.n (compact_of h theta v) i))

-- what a reduced matrix is made of: the columns laid out, and the block of the pairs
pub record Assembled (w : Model) (v : Vecs) : Type 0 where
  pub laid : Laid w.shape w.theta v
  pub block : w.block ≡ C.block w.shape.n (compact_of w.shape w.theta v)

-- what products are made with: the columns laid out, and the factors of the pairs' block, whatever the model's own array of it holds
pub record Prepared (w : Model) (v : Vecs) : Type 0 where
  pub laid : Laid w.shape w.theta v
  pub factors : Factored (2 * w.shape.pairs) (C.block w.shape.n (compact_of w.shape w.theta v)) w.factors

-- what a model w says of the vectors: the columns laid out, the block of the pairs, and the factors of the block
pub record Modelled (w : Model) (v : Vecs) : Type 0 where
  pub laid : Laid w.shape w.theta v
  pub block : w.block ≡ C.block w.shape.n (compact_of w.shape w.theta v)
  pub factors : Factored (2 * w.shape.pairs) w.block w.factors

-- w with the area b is the model of the pairs in the area a and of theta x
pub record Built (h : Shape) (x : Float) (a : List Float) (w : Model) (b : List Float) : Type 0 where
  pub shape : w.shape ≡ h
  pub theta : w.theta ≡ x
  pub is : Modelled w (view b w.shape.n)
  pub kept : PairsKept w.shape (view a w.shape.n) (view b w.shape.n)

-- vector p of b is the product, where ok says that there is one, and the others are as in a
pub record Multiplied (h : Shape) (theta : Float) (p q : ℕ) (a : Vecs) (ok : Bool) (b : Vecs) : Type 0 where
  pub is : given ok (b p) ≡ C.product h.n (compact_of h theta a) (a q)
  pub frame : b ≡ upd a p (b p)

-- word i of theta v, less the first k columns with their weights
abbrev pub less_to : C.Compact → List Float → List Float → ℕ → ℕ → Float
less_to c z v k i = fold_to k (λ j r. minus r (times (word z j) (C.column_word c j i))) (times c.theta (word v i))
