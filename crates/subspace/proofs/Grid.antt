-- Laws of the matrices that loops change entry by entry, and of the sums over the free coordinates. Assumes nothing.
use mathlib.Core.Path.{◌≡◌, refl, sym, ap, ◌∙◌}
use mathlib.Core.Bool.{Bool, true, false, cond}
use mathlib.Core.List.{List, [], ◌∷◌, ◌++◌}
use Prim.Native.Nat.{ℕ, zero, suc, ◌+◌, ◌-◌, ◌*◌, ◌≤◌, ◌<◌}
use native.Mathlib.Omega.{arith}
use lib.ListN.{length, get_or, set, replicate, length-append, get_or-append}
use lib.Seq.{get_or-append-add}
use lib.Ieee.{Float, nan}
use Rattle.definition.specs.Number.{plus, times, zero64, neg_zero}
use Rattle.definition.specs.Vector.{tab, word, fold_to}
use Rattle.definition.specs.Solve.{Matrix, row, entry}
use Rattle.definition.specs.Compact.{padded, zero_row, padded_rows}
use Rattle.definition.specs.Geometry.{free_sum}
use Rattle.area.specs.Area.{Vecs, fold_rows}
use Rattle.compact.specs.declared.Shape.{Shape}
use Rattle.compact.specs.declared.Model.{Model}
use Rattle.compact.specs.State.{column_slot, compact_of, Assembled}
use Rattle.area.proofs.Folds.{fold_same}
use Rattle.compact.proofs.Laws.{tab_same, padded-get, pairs_count}
use Rattle.subspace.specs.State.{free_in, columns_in, grid, row_each, each, product_to, four_to, add_rows, Held, add_free, reduced_by, free_sum_at, reduced_at}
use Rattle.subspace.proofs.Laws.{reduced_is}

-- ---- place n, after a table of n

tab_front : {A : Type 0} (n : ℕ) (g : ℕ → A) (r : List A) → tab (suc n) g ++ r ≡ tab n g ++ (g n ∷ r)
unfolding tab
tab_front zero g r = refl
tab_front (suc n) g r = ap (λ l. g zero ∷ l) (tab_front n (λ (k : ℕ). g (suc k)) r)

front_get : {A : Type 0} (n : ℕ) (g : ℕ → A) (y : A) (r : List A) (d : A) → get_or (tab n g ++ (y ∷ r)) n d ≡ y
unfolding tab
front_get zero g y r d = refl
front_get (suc n) g y r d = front_get n (λ (k : ℕ). g (suc k)) y r d

front_set : {A : Type 0} (n : ℕ) (g : ℕ → A) (x y : A) (r : List A) → set (tab n g ++ (y ∷ r)) n x ≡ tab n g ++ (x ∷ r)
unfolding tab
front_set zero g x y r = refl
front_set (suc n) g x y r = ap (λ l. g zero ∷ l) (front_set n (λ (k : ℕ). g (suc k)) x y r)

-- ---- a row of which each entry changes, and a matrix

row_front : (n : ℕ) (f : ℕ → Float → Float) (g : ℕ → Float) (r : List Float) → row_each n f (tab n g ++ r) ≡ tab n (λ j. f j (g j)) ++ r
unfolding fold_to row_each
row_front zero f g r = unfold tab in refl
row_front (suc n) f g r =
    let s : List Float → List Float = λ b. set b n (f n (word b n)) in
    let done : ℕ → Float = λ j. f j (g j) in
    ap (λ l. s (row_each n f l)) (tab_front n g r)
    ∙ ap s (row_front n f g (g n ∷ r))
    ∙ ap (λ x. set (tab n done ++ (g n ∷ r)) n (f n x)) (front_get n done (g n) r nan)
    ∙ front_set n done (f n (g n)) (g n) r
    ∙ sym (tab_front n done r)

rows_front : (size : ℕ) (f : ℕ → ℕ → Float → Float) (n : ℕ) (g : ℕ → List Float) (r : Matrix)
    → fold_to n (λ i c. set c i (row_each size (f i) (row c i))) (tab n g ++ r) ≡ tab n (λ i. row_each size (f i) (g i)) ++ r
unfolding fold_to
rows_front size f zero g r = unfold tab in refl
rows_front size f (suc n) g r =
    let s : Matrix → Matrix = λ c. set c n (row_each size (f n) (row c n)) in
    let done : ℕ → List Float = λ i. row_each size (f i) (g i) in
    ap (λ l. s (fold_to n (λ i c. set c i (row_each size (f i) (row c i))) l)) (tab_front n g r)
    ∙ ap s (rows_front size f n g (g n ∷ r))
    ∙ ap (λ x. set (tab n done ++ (g n ∷ r)) n (row_each size (f n) x)) (front_get n done (g n) r [])
    ∙ front_set n done (row_each size (f n) (g n)) (g n) r
    ∙ sym (tab_front n done r)

pub each_grid : (size : ℕ) (f : ℕ → ℕ → Float → Float) (g : ℕ → ℕ → Float) → each size f (grid size g) ≡ grid size (λ i j. f i j (g i j))
unfolding each padded
each_grid size f g =
    rows_front size f size (λ i. padded zero64 size (g i)) (replicate (32 - size) zero_row)
    ∙ (λ t. tab size (λ i. row_front size (f i) (g i) (replicate (32 - size) zero64) t) ++ replicate (32 - size) zero_row)

pub grid_same : (size : ℕ) (f g : ℕ → ℕ → Float) → ((i j : ℕ) → i < size → j < size → f i j ≡ g i j) → grid size f ≡ grid size g
unfolding padded
grid_same size f g e =
    ap (λ l. l ++ replicate (32 - size) zero_row)
    (tab_same size _ _ (λ i k. ap (λ l. l ++ replicate (32 - size) zero64) (tab_same size (f i) (g i) (λ j l. e i j k l))))

-- ---- the sums

add_free_lem : (h : Shape) (w : ℕ → Float) (g : ℕ → ℕ → Float) (t : Bool)
    → cond t (each (2 * h.pairs) (product_to (columns_in h w)) (grid (2 * h.pairs) g)) (grid (2 * h.pairs) g)
    ≡ grid (2 * h.pairs) (λ i j. cond t (plus (g i j) (times (w (column_slot h i)) (w (column_slot h j)))) (g i j))
add_free_lem h w g true =
    let size = 2 * h.pairs in
    let at : (i : ℕ) → i < size → word (columns_in h w) i ≡ w (column_slot h i) = λ i l. padded-get zero64 size (λ j. w (column_slot h j)) i nan l in
    each_grid size (product_to (columns_in h w)) g
    ∙ grid_same size _ _ (λ i j k l t. plus (g i j) (times (at i k t) (at j l t)))
add_free_lem h w g false = refl

-- ---- rows that are held

shaped_grid : (size : ℕ) (a : Matrix) (g : ℕ → ℕ → Float) → a ≡ grid size g → a ≡ grid size (entry a)
shaped_grid size a g e =
    e
    ∙ grid_same size _ _
    (λ i j k l.
    sym
    (ap (λ (b : Matrix). entry b i j) e
    ∙ ap (λ (r : List Float). word r j) (padded-get zero_row size (λ i. padded zero64 size (g i)) i [] k)
    ∙ padded-get zero64 size (g i) j nan l))

four_is : (size : ℕ) (p a : Matrix) → a ≡ grid size (entry a) → each size (four_to p) a ≡ fold_to 4 (λ t b. each size (product_to (row p t)) b) a
unfolding fold_to
four_is size p a e =
    let g = entry a in
    let f : ℕ → ℕ → ℕ → Float → Float = λ t. product_to (row p t) in
    let E : ℕ → Matrix → Matrix = λ t. each size (f t) in
    ap (each size (four_to p)) e
    ∙ each_grid size (four_to p) g
    ∙ sym
    (ap (λ b. E 3 (E 2 (E 1 (E 0 b)))) e
    ∙ ap (λ b. E 3 (E 2 (E 1 b))) (each_grid size (f 0) g)
    ∙ ap (λ b. E 3 (E 2 b)) (each_grid size (f 1) (λ i j. f 0 i j (g i j)))
    ∙ ap (E 3) (each_grid size (f 2) (λ i j. f 1 i j (f 0 i j (g i j))))
    ∙ each_grid size (f 3) (λ i j. f 2 i j (f 1 i j (f 0 i j (g i j)))))

-- one row more
rows-more : (size : ℕ) (p : Matrix) (r : List Float) (a : Matrix) → add_rows size (p ++ (r ∷ [])) a ≡ each size (product_to r) (add_rows size p a)
unfolding fold_to
rows-more size p r a =
    let n = length p in
    let long : length (p ++ (r ∷ [])) ≡ suc n = length-append p (r ∷ []) ∙ (let z : n + 1 ≡ suc n = omega arith in z) in
    let last : row (p ++ (r ∷ [])) n ≡ r =
    (let z : n ≡ n + 0 = omega arith in ap (row (p ++ (r ∷ []))) z) ∙ get_or-append-add p (r ∷ []) 0 [] in
    rw long
    (ap (λ (x : List Float). each size (product_to x) (fold_to n (λ t b. each size (product_to (row (p ++ (r ∷ [])) t)) b) a)) last
    ∙ ap (each size (product_to r)) (fold_same n _ _ a (λ t b k. ap (λ (x : List Float). each size (product_to x) b) (get_or-append p (r ∷ []) [] t k))))

abbrev AddsCoordinate : Shape → (ℕ → Float) → Matrix → Matrix → Matrix → Matrix → Type 0
AddsCoordinate h w p a q b = Held (2 * h.pairs) q b × (add_rows (2 * h.pairs) q b ≡ add_free h w (add_rows (2 * h.pairs) p a))

module _ (h : Shape) (w : ℕ → Float) (p : Matrix) (a : Matrix) {r : List Float} {q : Matrix} (free : free_in w ≡ true) (columns : r ≡ columns_in h w)
    (held : Held (2 * h.pairs) p a) (more : q ≡ p ++ (r ∷ [])) where
  row_added : each (2 * h.pairs) (product_to r) (add_rows (2 * h.pairs) p a) ≡ add_free h w (add_rows (2 * h.pairs) p a)
  row_added = rw free (ap (λ (x : List Float). each (2 * h.pairs) (product_to x) (add_rows (2 * h.pairs) p a)) columns)

  pub joins_batch : length q < 4 → AddsCoordinate h w p a q a
  joins_batch l = (
    record { few = l; shaped = held.shaped },
    rw more (rows-more (2 * h.pairs) p r a) ∙ row_added,
  )

  pub fills_batch : (b : Matrix) → length q ≡ 4 → b ≡ each (2 * h.pairs) (four_to q) a → AddsCoordinate h w p a [] b
  unfolding fold_to
  fills_batch b l s =
      let size = 2 * h.pairs in (
        record {
          few = omega arith;
          shaped = shaped_grid size b _ (s ∙ ap (each size (four_to q)) held.shaped ∙ each_grid size (four_to q) (entry a));
        },
        s
            ∙ four_is size q a held.shaped
            ∙ ap (λ (m : ℕ). fold_to m (λ t b. each size (product_to (row q t)) b) a) (sym l)
            ∙ rw more (rows-more size p r a)
            ∙ row_added,
      )

-- before the first coordinate
pub held_none : (size : ℕ) (a : Matrix) (g : ℕ → ℕ → Float) → a ≡ grid size g → Held size [] a
held_none size a g e = record { few = omega arith; shaped = shaped_grid size a g e }

-- ---- over every coordinate

pub sums_are : (h : Shape) (n : ℕ) (v : Vecs)
    → fold_rows (grid (2 * h.pairs) (λ i j. neg_zero)) (λ k. add_free h) n v ≡ grid (2 * h.pairs) (λ i j. free_sum_at n v (column_slot h i) (column_slot h j))
unfolding fold_rows fold_to free_sum
sums_are h zero v = refl
sums_are h (suc n) v =
    let w : ℕ → Float = λ q. word (v q) n in
    ap (add_free h w) (sums_are h n v)
    ∙ add_free_lem h w (λ i j. free_sum_at n v (column_slot h i) (column_slot h j)) (free_in w)

-- zeros throughout
tab_same_zero : {A : Type 0} (n k : ℕ) (z : A) → n ≤ k → tab n (λ i. z) ++ replicate (k - n) z ≡ replicate k z
unfolding tab
tab_same_zero zero k z h = let e : k - 0 ≡ k = omega arith in rw e refl
tab_same_zero (suc n) zero z h = absurd (omega arith)
tab_same_zero (suc n) (suc k) z h =
    let e : suc k - suc n ≡ k - n = omega arith in
    rw e (ap (λ l. z ∷ l) (tab_same_zero n k z (omega arith)))

grid_zeros : (size : ℕ) → size ≤ 32 → grid size (λ i j. zero64) ≡ replicate 32 zero_row
unfolding padded
grid_zeros size h =
    ap (λ (r : List Float). tab size (λ i. r) ++ replicate (32 - size) zero_row) (tab_same_zero size 32 zero64 h)
    ∙ tab_same_zero size 32 zero_row h

-- and the reduced matrix from them
pub reduced_are : {m : Model} {v : Vecs} (a : Matrix) {b : Matrix} → Assembled m v
    → a ≡ grid (2 * m.shape.pairs) (λ i j. free_sum_at m.shape.n v (column_slot m.shape i) (column_slot m.shape j))
    → b ≡ each (2 * m.shape.pairs) (reduced_by m.theta m.block) a
    → b ≡ padded_rows (compact_of m.shape m.theta v) (reduced_at m.shape m.theta v)
reduced_are {m} {v} a r e s =
    let h = m.shape in
    let size = 2 * h.pairs in
    rw (pairs_count h v)
    (s
    ∙ ap (each size (reduced_by m.theta m.block)) e
    ∙ each_grid size (reduced_by m.theta m.block) (λ i j. free_sum_at h.n v (column_slot h i) (column_slot h j))
    ∙ grid_same size _ _ (λ i j k l. reduced_is i j _ r k l refl))

-- the sums where there is no term
pub empty_sums_are : (size : ℕ) (a : Matrix) → size ≤ 32 → a ≡ replicate 32 zero_row → each size (λ i j x. neg_zero) a ≡ grid size (λ i j. neg_zero)
empty_sums_are size a h e = ap (each size (λ i j x. neg_zero)) (e ∙ sym (grid_zeros size h)) ∙ each_grid size (λ i j x. neg_zero) (λ i j. zero64)
