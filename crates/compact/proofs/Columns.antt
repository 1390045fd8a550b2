-- Laws of the columns of W: laid out one by one, multiplied with a vector, and subtracted from one. Assumes nothing.
use mathlib.Core.Path.{◌≡◌, refl, sym, ap, ◌∙◌}
use mathlib.Core.Bool.{Bool, false}
use mathlib.Core.List.{List}
use Rattle.std.specs.Prelude.{None, Some}
use Prim.Native.Nat.{ℕ, ◌+◌, ◌-◌, ◌*◌, ◌≤◌, ◌<◌}
use native.Mathlib.Numerals.{add-one}
use native.Mathlib.Omega.{arith}
use borrow.Author.Count.{below_more}
use borrow.Author.Tests.{lt-ltb, le-ltb, eq-eqb, ne_eqb}
use lib.ListN.{length}
use lib.Ieee.{Float, nan}
use Rattle.definition.specs.Number.{plus, minus, times, neg_zero}
use Rattle.definition.specs.Vector.{tab, word, fold_to, dot, all_finite, finite_only}
use Rattle.definition.specs.Solve.{Matrix, solve}
use Rattle.definition.specs.Compact.{Compact, pair_of, column_word, column_dot, zero_row, block, right_side, weights, less_word, product}
use Rattle.area.specs.Area.{Vecs, upd, copy_of, view, rowwise, first_pair}
use Rattle.area.proofs.Laws.{length-view, upd_other}
use Rattle.solve.specs.Factors.{solved_by}
use Rattle.solve.proofs.Steps.{FactorsMake, make_solve}
use Rattle.compact.specs.declared.Shape.{Shape}
use Rattle.compact.specs.declared.Model.{Model}
use Rattle.compact.specs.State.{column_slot, pairs_of, compact_of, Sound, Slot, Laid, PairsKept, Prepared, Multiplied, less_to}
use Rattle.area.proofs.Folds.{fold_same}
use Rattle.compact.proofs.Laws.{tab-get, tab_same, tab-word, pairs_count, upd_same, upd_twice, upd_none, given_is}
use Rattle.compact.proofs.Models.{compact_laid}

-- ---- one column

y_column : (h : Shape) (theta : Float) (v : Vecs) (k i : ℕ) → k < h.pairs → column_word (compact_of h theta v) k i ≡ word (pair_of (pairs_of h v) k).y i
unfolding column_word
y_column h theta v k i l = rw (pairs_count h v, lt-ltb k h.pairs l)

s_column : (h : Shape) (theta : Float) (v : Vecs) (k i : ℕ) → h.pairs ≤ k
    → column_word (compact_of h theta v) k i ≡ times theta (word (pair_of (pairs_of h v) (k - h.pairs)).s i)
unfolding column_word
s_column h theta v k i l = rw (pairs_count h v, le-ltb k h.pairs l)

pub y_laid : (h : Shape) (theta : Float) (a : List Float) (k p to : ℕ) (b : Vecs) → k < h.pairs → Sound h (length a) → Slot h k p → to ≡ column_slot h k
    → b ≡ copy_of to (p + 1) (view a h.n)
    → b ≡ upd (view a h.n) (column_slot h k) (tab h.n (column_word (compact_of h theta (view a h.n)) k))
y_laid h theta a k p to b l o s d e =
    let v = view a h.n in
    e
    ∙ ap (λ (j : ℕ). copy_of j (p + 1) v) d
    ∙ ap (upd v (column_slot h k))
    (sym (tab-word h.n (v (p + 1)) (length-view a h.n (p + 1) (s.second _ o)))
    ∙ ap (λ (y : List Float). tab h.n (word y)) (s.y v)
    ∙ (λ t. tab h.n (λ (i : ℕ). sym (y_column h theta v k i l) t)))

pub s_laid : (h : Shape) (theta : Float) (a : List Float) (k p to : ℕ) (b : Vecs) → h.pairs ≤ k → Slot h (k - h.pairs) p → to ≡ column_slot h k
    → b ≡ rowwise h.n to (λ (i : ℕ) w. times theta (w p)) (view a h.n)
    → b ≡ upd (view a h.n) (column_slot h k) (tab h.n (column_word (compact_of h theta (view a h.n)) k))
unfolding rowwise
s_laid h theta a k p to b l s d e =
    let v = view a h.n in
    e
    ∙ ap (λ (j : ℕ). upd v j (tab h.n (λ (i : ℕ). times theta (word (v p) i)))) d
    ∙ ap (upd v (column_slot h k))
    (ap (λ (x : List Float). tab h.n (λ (i : ℕ). times theta (word x i))) (s.s v)
    ∙ (λ t. tab h.n (λ (i : ℕ). sym (s_column h theta v k i l) t)))

-- ---- all of them: b is a with the first k columns laid out

pub record Laying (h : Shape) (theta : Float) (a b : Vecs) (k : ℕ) : Type 0 where
  pub upto : k ≤ 2 * h.pairs
  pub kept : PairsKept h a b
  pub is : (j : ℕ) → j < k → b (column_slot h j) ≡ tab h.n (column_word (compact_of h theta a) j)

pub laying_more : {h : Shape} {theta : Float} {size : ℕ} {a b d : Vecs} {k : ℕ} → Sound h size → Laying h theta a b k → k < 2 * h.pairs
    → d ≡ upd b (column_slot h k) (tab h.n (column_word (compact_of h theta b) k)) → Laying h theta a d (k + 1)
laying_more {h} {theta} {size} {a} {b} {d} {k} s r l e =
    let x = tab h.n (column_word (compact_of h theta b) k) in
    record {
      upto = omega arith;
      kept = λ q m. (λ i. e i q) ∙ upd_other b (column_slot h k) q x (λ z. omega arith) ∙ r.kept q m;
      is = below_more (λ (j : ℕ). d (column_slot h j) ≡ tab h.n (column_word (compact_of h theta a) j)) k
          (λ j m. (λ i. e i (column_slot h j)) ∙ upd_other b (column_slot h k) (column_slot h j) x (λ z. omega arith) ∙ r.is j m)
          ((λ i. e i (column_slot h k))
          ∙ upd_same b (column_slot h k) x
          ∙ ap (λ (c : Compact). tab h.n (column_word c k)) (compact_laid theta a b s r.kept));
    }

pub laying_done : {h : Shape} {theta : Float} {size : ℕ} {a b : Vecs} {k : ℕ} → Sound h size → Laying h theta a b k → 2 * h.pairs ≤ k
    → Laid h theta b × PairsKept h a b
laying_done {h} {theta} {size} {a} {b} {k} s r l = (
  record { is = λ j m. r.is j (omega arith) ∙ ap (λ (c : Compact). tab h.n (column_word c j)) (sym (compact_laid theta a b s r.kept)) },
  r.kept,
)

-- ---- products with a vector

pub laid_word : {h : Shape} {theta : Float} {v : Vecs} → Laid h theta v → (k i : ℕ) → k < 2 * h.pairs → i < h.n
    → word (v (column_slot h k)) i ≡ column_word (compact_of h theta v) k i
laid_word {h} {theta} {v} r k i l m =
    ap (λ (x : List Float). word x i) (r.is k l) ∙ tab-get h.n (column_word (compact_of h theta v) k) i nan m

pub laid_dot : {h : Shape} {theta : Float} {v : Vecs} → Laid h theta v → (k q : ℕ) (w : List Float) → k < 2 * h.pairs → q ≡ column_slot h k
    → dot h.n (v q) w ≡ column_dot h.n (compact_of h theta v) k w
laid_dot {h} {theta} {v} r k q w l e =
    ap (λ (j : ℕ). dot h.n (v j) w) e
    ∙ fold_same h.n (λ i s. plus s (times (word (v (column_slot h k)) i) (word w i)))
    (λ i s. plus s (times (column_word (compact_of h theta v) k i) (word w i))) neg_zero
    (λ i s m. ap (λ (x : Float). plus s (times x (word w i))) (laid_word r k i l m))

-- ---- vector p less the first k columns with their weights z: b is a with that vector

abbrev less_of : Shape → List Float → ℕ → Vecs → ℕ → ℕ → Float
less_of h z p a k i = fold_to k (λ j r. minus r (times (word z j) (word (a (column_slot h j)) i))) (word (a p) i)

pub record Lessened (h : Shape) (z : List Float) (p : ℕ) (a b : Vecs) (k : ℕ) : Type 0 where
  pub upto : k ≤ 2 * h.pairs
  pub is : b ≡ upd a p (tab h.n (less_of h z p a k))

pub lessened_none : {h : Shape} {z : List Float} {p : ℕ} {a : Vecs} → length (a p) ≡ h.n → Lessened h z p a a 0
unfolding fold_to
lessened_none {h} {z} {p} {a} l = record { upto = omega arith; is = upd_none a p (tab h.n (word (a p))) (sym (tab-word h.n (a p) l)) }

pub lessened_more : {h : Shape} {z : List Float} {p k : ℕ} {a b d : Vecs} → Lessened h z p a b k → p < first_pair → k < 2 * h.pairs
    → {q : ℕ} → q ≡ column_slot h k → {y : Float} → y ≡ word z k → d ≡ rowwise h.n p (λ (i : ℕ) v. minus (v p) (times y (v q))) b
    → Lessened h z p a d (k + 1)
unfolding rowwise fold_to
lessened_more {h} {z} {p} {k} {a} {b} {d} r g l {q} c w e =
    let x = tab h.n (less_of h z p a k) in
    let made : b p ≡ x = (λ i. r.is i p) ∙ upd_same a p x in
    let column : b q ≡ a (column_slot h k) = ap b c ∙ (λ i. r.is i (column_slot h k)) ∙ upd_other a p (column_slot h k) x (λ e. omega arith) in
    record {
      upto = omega arith;
      is =
          e
          ∙ (λ t. upd (r.is t) p (tab h.n (λ (i : ℕ). minus (word (made t) i) (times (w t) (word (column t) i)))))
          ∙ upd_twice a p x (tab h.n (λ (i : ℕ). minus (word x i) (times (word z k) (word (a (column_slot h k)) i))))
          ∙ ap (upd a p)
          (tab_same h.n (λ (i : ℕ). minus (word x i) (times (word z k) (word (a (column_slot h k)) i))) (less_of h z p a (k + 1))
          (λ i m. rw add-one (ap (λ (y : Float). minus y (times (word z k) (word (a (column_slot h k)) i))) (tab-get h.n (less_of h z p a k) i nan m))));
    }

pub lessened_done : {h : Shape} {theta : Float} {z : List Float} {p k : ℕ} {o a b : Vecs} (q : ℕ) → Laid h theta o → p < first_pair
    → a ≡ rowwise h.n p (λ (i : ℕ) v. times theta (v q)) o → Lessened h z p a b k → 2 * h.pairs ≤ k
    → b ≡ upd o p (tab h.n (less_to (compact_of h theta o) z (o q) (2 * h.pairs)))
unfolding rowwise
lessened_done {h} {theta} {z} {p} {k} {o} {a} {b} q w g e r l =
    let K : k ≡ 2 * h.pairs = omega (arith, r.upto) in
    let c = compact_of h theta o in
    let x = tab h.n (λ (i : ℕ). times theta (word (o q) i)) in
    let start : (i : ℕ) → i < h.n → word (a p) i ≡ times theta (word (o q) i) =
    λ i m. ap (λ (y : Vecs). word (y p) i) e ∙ ap (λ (y : List Float). word y i) (upd_same o p x)
    ∙ tab-get h.n (λ (i : ℕ). times theta (word (o q) i)) i nan m in
    let column : (j i : ℕ) → j < k → i < h.n → word (a (column_slot h j)) i ≡ column_word c j i =
    λ j i n m.
    ap (λ (y : Vecs). word (y (column_slot h j)) i) e
    ∙ ap (λ (y : List Float). word y i) (upd_other o p (column_slot h j) x (λ e. omega arith))
    ∙ laid_word w j i (omega arith) m in
    rw (← K)
    (r.is
    ∙ ap (λ (y : Vecs). upd y p (tab h.n (less_of h z p a k))) e
    ∙ upd_twice o p x (tab h.n (less_of h z p a k))
    ∙ ap (upd o p)
    (tab_same h.n (less_of h z p a k) (less_to c z (o q) k)
    (λ i m.
    ap (fold_to k (λ j r. minus r (times (word z j) (word (a (column_slot h j)) i)))) (start i m)
    ∙ fold_same k (λ j r. minus r (times (word z j) (word (a (column_slot h j)) i))) (λ j r. minus r (times (word z j) (column_word c j i)))
    (times theta (word (o q) i))
    (λ j r n. ap (λ (y : Float). minus r (times (word z j) y)) (column j i n m)))))

-- ---- products with B

-- the weights by the block
solved_block : (h : Shape) (theta : Float) (v : Vecs) (q : ℕ) (m : Matrix) (y : List Float) → (h.pairs ≡ 0 → ⊥) → m ≡ block h.n (compact_of h theta v)
    → y ≡ right_side h.n (compact_of h theta v) (v q) → solve (2 * h.pairs) m y ≡ weights h.n (compact_of h theta v) (v q)
unfolding weights
solved_block h theta v q m y d e f =
    rw (pairs_count h v, ne_eqb h.pairs 0 d) (λ i. solve (2 * h.pairs) (rw (pairs_count h v) at e i) (rw (pairs_count h v) at f i))

-- and by its factors
pub make_weighed : (w : Model) (v : Vecs) (q : ℕ) (y : List Float) → (w.shape.pairs ≡ 0 → ⊥)
    → FactorsMake (2 * w.shape.pairs) (block w.shape.n (compact_of w.shape w.theta v)) w.factors → y ≡ right_side w.shape.n (compact_of w.shape w.theta v) (v q)
    → solved_by (2 * w.shape.pairs) w.factors y ≡ weights w.shape.n (compact_of w.shape w.theta v) (v q)
make_weighed w v q y d e f =
    make_solve (2 * w.shape.pairs) (block w.shape.n (compact_of w.shape w.theta v)) w.factors e y
    ∙ solved_block w.shape w.theta v q (block w.shape.n (compact_of w.shape w.theta v)) y d refl f

pub weighed : (w : Model) (v : Vecs) (q : ℕ) (y : List Float) → (w.shape.pairs ≡ 0 → ⊥) → Prepared w v
    → y ≡ right_side w.shape.n (compact_of w.shape w.theta v) (v q)
    → solved_by (2 * w.shape.pairs) w.factors y ≡ weights w.shape.n (compact_of w.shape w.theta v) (v q)
weighed w v q y d e f = make_weighed w v q y d e.factors.is f

pub unweighed : (h : Shape) (theta : Float) (v : Vecs) (q : ℕ) → h.pairs ≡ 0 → Some zero_row ≡ weights h.n (compact_of h theta v) (v q)
unfolding weights
unweighed h theta v q e = rw (pairs_count h v, eq-eqb h.pairs 0 e)

less_all : (h : Shape) (theta : Float) (v : Vecs) (z w : List Float) (i : ℕ)
    → less_to (compact_of h theta v) z w (2 * h.pairs) i ≡ less_word (compact_of h theta v) z w i
unfolding less_word
less_all h theta v z w i = rw (pairs_count h v)

pub no_product : (h : Shape) (theta : Float) (p q : ℕ) (a : Vecs) → None ≡ weights h.n (compact_of h theta a) (a q) → Multiplied h theta p q a false a
unfolding product
no_product h theta p q a e = record { is = rw (← e); frame = upd_none a p (a p) refl }

pub with_product : (h : Shape) (theta : Float) (p q : ℕ) (a b : Vecs) (z : List Float) (r : Bool) → Some z ≡ weights h.n (compact_of h theta a) (a q)
    → b ≡ upd a p (tab h.n (less_to (compact_of h theta a) z (a q) (2 * h.pairs))) → r ≡ all_finite h.n (b p) → Multiplied h theta p q a r b
unfolding product
with_product h theta p q a b z r e f g =
    let x = tab h.n (less_to (compact_of h theta a) z (a q) (2 * h.pairs)) in
    let s : b p ≡ x = (λ i. f i p) ∙ upd_same a p x in
    record {
      is =
          rw (← e, g, s)
          (given_is (all_finite h.n x) x ∙ ap (finite_only h.n) (λ j. tab h.n (λ (i : ℕ). less_all h theta a z (a q) i j)));
      frame = f ∙ ap (upd a p) (sym s);
    }
