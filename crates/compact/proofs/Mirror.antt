-- The block is symmetric, word for word: a product of floats commutes. Assumes nothing.
use mathlib.Core.Path.{◌≡◌, refl, sym, ap, ◌∙◌}
use mathlib.Core.Bool.{Bool, true, false, cond}
use mathlib.Core.List.{List, []}
use Prim.Native.Nat.{ℕ, ◌-◌, ◌*◌, ◌<◌}
use native.Mathlib.Nat.{mul_comm}
use borrow.Author.Tests.{eqb-true, eqb-false, ne_eqb}
use lib.Dec.{eqb, ltb}
use lib.Ieee.{Float, Format, nan, inf, fin, binary64, mul, round, unlike, up, down}
use Rattle.definition.specs.Number.{plus, times, zero64, neg_zero}
use Rattle.definition.specs.Vector.{fold_to, word, dot}
use Rattle.definition.specs.Solve.{Matrix, entry}
use Rattle.definition.specs.Compact as C
use Rattle.area.specs.Area.{Vecs}
use Rattle.compact.specs.declared.Shape.{Shape}
use Rattle.compact.specs.State.{compact_of, block_to}
use Rattle.compact.proofs.Laws.{padded-get}

unlike_commutes : (s t : Bool) → unlike s t ≡ unlike t s
unlike_commutes true true = refl
unlike_commutes true false = refl
unlike_commutes false true = refl
unlike_commutes false false = refl

mul_commutes : (f : Format) (x y : Float) → mul f x y ≡ mul f y x
unfolding mul
mul_commutes f nan nan = refl
mul_commutes f nan (inf t) = refl
mul_commutes f nan (fin t n d) = refl
mul_commutes f (inf s) nan = refl
mul_commutes f (inf s) (inf t) = ap inf (unlike_commutes s t)
mul_commutes f (inf s) (fin t n d) = ap (λ (u : Bool). cond (eqb n 0) nan (inf u)) (unlike_commutes s t)
mul_commutes f (fin s m e) nan = refl
mul_commutes f (fin s m e) (inf t) = ap (λ (u : Bool). cond (eqb m 0) nan (inf u)) (unlike_commutes s t)
mul_commutes f (fin s m e) (fin t n d) =
    λ i. round f (unlike_commutes s t i) (mul_comm (m * up e) (n * up d) i) (mul_comm (down e) (down d) i)

pub dot_commutes : (n : ℕ) (a b : List Float) → dot n a b ≡ dot n b a
dot_commutes n a b = λ t. fold_to n (λ i s. plus s (mul_commutes binary64 (word a i) (word b i) t)) neg_zero

diagonal_mirrored : (n : ℕ) (ps : List C.Pair) (i j : ℕ) → C.diagonal_entry n ps i j ≡ C.diagonal_entry n ps j i
unfolding C.diagonal_entry
diagonal_mirrored n ps i j = at (eqb i j) refl
  where
    at : (t : Bool) → eqb i j ≡ t → C.diagonal_entry n ps i j ≡ C.diagonal_entry n ps j i
    at true e = let q : i ≡ j = eqb-true i j e in rw q
    at false e = rw (e, ne_eqb j i (λ q. eqb-false i j e (sym q)))

mirrored : (n : ℕ) (c : C.Compact) (i j : ℕ) → C.block_entry n c i j ≡ C.block_entry n c j i
unfolding C.block_entry
mirrored n c i j = at (ltb i (C.count c)) (ltb j (C.count c)) refl refl
  where
    at : (s t : Bool) → ltb i (C.count c) ≡ s → ltb j (C.count c) ≡ t → C.block_entry n c i j ≡ C.block_entry n c j i
    at true true d e = rw (d, e) (diagonal_mirrored n c.pairs i j)
    at true false d e = rw (d, e)
    at false true d e = rw (d, e)
    at false false d e =
        rw (d, e)
        (ap (times c.theta) (dot_commutes n (C.pair_of c.pairs (i - C.count c)).s (C.pair_of c.pairs (j - C.count c)).s))

-- an entry of the rows that are made, for the entry across the diagonal
pub from_above : (h : Shape) (theta : Float) (v : Vecs) (b : Matrix) (i j : ℕ) → b ≡ block_to h theta v i → j < i → i < 2 * h.pairs
    → entry b j i ≡ C.block_entry h.n (compact_of h theta v) i j
from_above h theta v b i j e l k =
    let c = compact_of h theta v in
    ap (λ (m : Matrix). entry m j i) e
    ∙ ap (λ (r : List Float). word r i) (padded-get C.zero_row i (λ (i : ℕ). C.padded zero64 (2 * h.pairs) (C.block_entry h.n c i)) j [] l)
    ∙ padded-get zero64 (2 * h.pairs) (C.block_entry h.n c j) i nan k
    ∙ mirrored h.n c j i
