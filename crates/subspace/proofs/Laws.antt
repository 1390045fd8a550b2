-- Laws of the free coordinates and of the columns of W over them. Assumes nothing.
use mathlib.Core.Path.{◌≡◌, refl, sym, ap, ◌∙◌}
use mathlib.Core.Bool.{Bool, true, false, cond, ◌||◌}
use mathlib.Core.List.{List, [], ◌∷◌, map}
use Rattle.std.specs.List.{list_any, filter, fold, range_with_len}
use Rattle.std.proofs.lemmas.List.Recursion.{or_push}
use Prim.Native.Nat.{ℕ, zero, suc, ◌+◌, ◌*◌, ◌≤◌, ◌<◌}
use native.Mathlib.Numerals.{add-one}
use native.Mathlib.Omega.{arith}
use lib.Ieee.{Float, nan}
use Rattle.definition.specs.Number.{plus, minus, times, over, neg_zero}
use Rattle.definition.specs.Vector.{tab, word, fold_to}
use Rattle.definition.specs.Solve.{entry}
use Rattle.definition.specs.Compact.{column_word}
use Rattle.definition.specs.Geometry.{free, free_sum, correction}
use Rattle.area.specs.Area.{Vecs, bounds_of, upd, view, words_at, rowwise, fold_rows, fill_of, vector_cauchy, vector_product_d, vector_step}
use Rattle.area.proofs.Folds.{fold_same, range_more, folded}
use Rattle.area.proofs.Laws.{upd_other, word-view}
use Rattle.compact.specs.declared.Shape.{Shape}
use Rattle.compact.specs.declared.Model.{Model}
use Rattle.compact.specs.State.{column_slot, compact_of, Laid, Assembled}
use Rattle.compact.proofs.Laws.{tab-get, tab_same, pairs_count}
use Rattle.compact.proofs.Columns.{laid_word}
use Rattle.compact.proofs.Laws.{upd_twice}
use Rattle.compact.proofs.Models.{assembled_entry}
use Rattle.subspace.specs.declared.Coordinate.{Coordinate}
use Rattle.subspace.specs.State.{coordinate_of, free_of, free_in, free_term, any_free_at, free_sum_at, reduced_at, corrections_at}

-- whether a coordinate is free, read off the words at its index
pub is_free_in : (w : ℕ → Float) {k : Coordinate} {t : Bool} → k ≡ coordinate_of w → t ≡ free_of k → free_in w ≡ t
is_free_in w e f = sym (f ∙ ap free_of e)

-- ---- whether any coordinate is free

any_range : (f : ℕ → Bool) (n : ℕ) → list_any f (range_with_len 0 n) ≡ fold_to n (λ i t. t || f i) false
unfolding fold_to
any_range f zero = refl
any_range f (suc n) =
    ap (list_any f) (range_more n)
    ∙ or_push (list_any f) f refl (λ _ _. refl) (range_with_len 0 n) n
    ∙ ap (λ (t : Bool). t || f n) (any_range f n)

pub any_is : (a : List Float) (n : ℕ) → list_any (λ (i : ℕ). free_in (words_at a n i)) (range_with_len 0 n) ≡ any_free_at n (view a n)
any_is a n =
    any_range (λ (i : ℕ). free_in (words_at a n i)) n
    ∙ fold_same n _ _ false (λ i t l k. t || free_in (λ (q : ℕ). word-view a n q i l k))

-- ---- the products over the free coordinates

abbrev free_fold : (ℕ → Bool) → (ℕ → Float) → Float → List ℕ → Float
free_fold test f z is = fold (λ s i. cond (test i) (plus s (f i)) s) z is

filtered : (test : ℕ → Bool) (f : ℕ → Float) (i : ℕ) (is : List ℕ) (z : Float) (t : Bool) → test i ≡ t
    → ((y : Float) → fold plus y (map f (filter test is)) ≡ free_fold test f y is) → fold plus z (map f (filter test (i ∷ is))) ≡ free_fold test f z (i ∷ is)
filtered test f i is z true e k = rw e (k (plus z (f i)))
filtered test f i is z false e k = rw e (k z)

fold_filter : (test : ℕ → Bool) (f : ℕ → Float) (is : List ℕ) (z : Float) → fold plus z (map f (filter test is)) ≡ free_fold test f z is
fold_filter test f [] z = refl
fold_filter test f (i ∷ is) z = filtered test f i is z (test i) refl (fold_filter test f is)

pub free_products : (a : List Float) (n p q : ℕ)
    → fold plus neg_zero (map (λ (i : ℕ). times (words_at a n i p) (words_at a n i q)) (filter (λ (i : ℕ). free_in (words_at a n i)) (range_with_len 0 n)))
    ≡ free_sum_at n (view a n) p q
unfolding free_sum fold_rows
free_products a n p q =
    fold_filter (λ (i : ℕ). free_in (words_at a n i)) (λ (i : ℕ). times (words_at a n i p) (words_at a n i q)) (range_with_len 0 n) neg_zero
    ∙ folded a n (λ i. free_term p q) neg_zero

-- ---- the reduced system

free_same : (n : ℕ) (v : Vecs) (f g : ℕ → Float) → ((k : ℕ) → k < n → f k ≡ g k)
    → free_sum n (bounds_of v) (v vector_cauchy) f ≡ free_sum n (bounds_of v) (v vector_cauchy) g
unfolding free_sum
free_same n v f g e =
    let term : ℕ → Float → Float → Float = λ k x s. cond (free (bounds_of v) (v vector_cauchy) k) (plus s x) s in
    fold_same n (λ k. term k (f k)) (λ k. term k (g k)) neg_zero (λ k s l t. term k (e k l t) s)

pub reduced_is : {m : Model} {v : Vecs} (i j : ℕ) (s : Float) → Assembled m v → i < 2 * m.shape.pairs → j < 2 * m.shape.pairs
    → s ≡ free_sum_at m.shape.n v (column_slot m.shape i) (column_slot m.shape j)
    → minus (entry m.block i j) (over s m.theta) ≡ reduced_at m.shape m.theta v i j
reduced_is {m} {v} i j s r k l e =
    let h = m.shape in
    let theta = m.theta in
    let f : s ≡ free_sum h.n (bounds_of v) (v vector_cauchy) (λ k. times (column_word (compact_of h theta v) i k) (column_word (compact_of h theta v) j k)) =
    e ∙ free_same h.n v _ _ (λ d n t. times (laid_word r.laid i d k n t) (laid_word r.laid j d l n t)) in
    λ t. minus (assembled_entry i j r k l t) (over (f t) theta)

pub right_is : {h : Shape} {theta : Float} {v : Vecs} (i q : ℕ) → Laid h theta v → i < 2 * h.pairs → q ≡ column_slot h i
    → free_sum_at h.n v q vector_product_d
    ≡ free_sum h.n (bounds_of v) (v vector_cauchy) (λ k. times (column_word (compact_of h theta v) i k) (word (v vector_product_d) k))
right_is {h} {theta} {v} i q r k e =
    ap (λ (j : ℕ). free_sum_at h.n v j vector_product_d) e
    ∙ free_same h.n v _ _ (λ d n t. times (laid_word r i d k n t) (word (v vector_product_d) d))

-- ---- the corrections: b is a, whose step is -0 throughout, with the first k columns added to the step

abbrev added_of : Shape → List Float → Vecs → ℕ → ℕ → Float
added_of h z a k i = fold_to k (λ j s. plus s (times (word (a (column_slot h j)) i) (word z j))) neg_zero

pub record Added (h : Shape) (z : List Float) (a b : Vecs) (k : ℕ) : Type 0 where
  pub upto : k ≤ 2 * h.pairs
  pub is : b ≡ upd a vector_step (tab h.n (added_of h z a k))

pub added_none : {h : Shape} {z : List Float} {a : Vecs} (o : Vecs) → a ≡ fill_of h.n vector_step neg_zero o → Added h z a a 0
unfolding fill_of rowwise fold_to
added_none {h} {z} {a} o e =
    let x = tab h.n (λ i. neg_zero) in
    record { upto = omega arith; is = e ∙ sym (upd_twice o vector_step x x) ∙ ap (λ (y : Vecs). upd y vector_step x) (sym e) }

pub added_more : {h : Shape} {z : List Float} {k : ℕ} {a b d : Vecs} {w : Float}
    → Added h z a b k → k < 2 * h.pairs → (q : ℕ) → q ≡ column_slot h k → w ≡ word z k
    → d ≡ rowwise h.n vector_step (λ (i : ℕ) v. plus (v vector_step) (times (v q) w)) b → Added h z a d (k + 1)
unfolding rowwise fold_to
added_more {h} {z} {k} {a} {b} {d} r l q c m e =
    let x = tab h.n (added_of h z a k) in
    let column : b q ≡ a (column_slot h k) = ap b c ∙ (λ t. r.is t (column_slot h k)) ∙ upd_other a vector_step (column_slot h k) x (λ e. omega arith) in
    let more : ℕ → Float = λ (i : ℕ). plus (word x i) (times (word (a (column_slot h k)) i) (word z k)) in
    record {
      upto = omega arith;
      is =
          e
          ∙ (λ t. upd (r.is t) vector_step (tab h.n (λ (i : ℕ). plus (word (r.is t vector_step) i) (times (word (column t) i) (m t)))))
          ∙ upd_twice a vector_step x (tab h.n more)
          ∙ ap (upd a vector_step)
          (tab_same h.n more (added_of h z a (k + 1))
          (λ i l. rw add-one (ap (λ (y : Float). plus y (times (word (a (column_slot h k)) i) (word z k))) (tab-get h.n (added_of h z a k) i nan l))));
    }

pub added_done : {h : Shape} {theta : Float} {z : List Float} {k : ℕ} {o a b : Vecs} → Laid h theta o → a ≡ fill_of h.n vector_step neg_zero o
    → Added h z a b k → 2 * h.pairs ≤ k → b ≡ upd o vector_step (corrections_at h theta o z)
unfolding fill_of rowwise
added_done {h} {theta} {z} {k} {o} {a} {b} w e r l =
    let K : k ≡ 2 * h.pairs = omega (arith, r.upto) in
    let x = tab h.n (λ i. neg_zero) in
    let column : (j i : ℕ) → j < k → i < h.n → word (a (column_slot h j)) i ≡ column_word (compact_of h theta o) j i =
    λ j i n m.
    ap (λ (y : Vecs). word (y (column_slot h j)) i) e
    ∙ ap (λ (y : List Float). word y i) (upd_other o vector_step (column_slot h j) x (λ e. omega arith))
    ∙ laid_word w j i (omega arith) m in
    r.is
    ∙ ap (λ (y : Vecs). upd y vector_step (tab h.n (added_of h z a k))) e
    ∙ upd_twice o vector_step x (tab h.n (added_of h z a k))
    ∙ ap (upd o vector_step)
    (tab_same h.n (added_of h z a k) (correction (compact_of h theta o) z)
    (λ i m.
    rw (pairs_count h o, ← K)
    (fold_same k (λ j s. plus s (times (word (a (column_slot h j)) i) (word z j))) (λ j s. plus s (times (column_word (compact_of h theta o) j i) (word z j)))
    neg_zero
    (λ j s n. ap (λ (y : Float). plus s (times y (word z j))) (column j i n m)))))
