-- Laws of `specs/Factors.antt`: the loops of an elimination, whatever the right side, and the solution that follows. Assumes nothing.
use mathlib.Core.Path.{◌≡◌, refl, sym, ap, ◌∙◌}
use mathlib.Core.Bool.{Bool, true, false, not, cond, ◌&&◌, false≢true}
use mathlib.Core.List.{List, [], ◌∷◌, map}
use Rattle.std.specs.Prelude.{Option, None, Some}
use Rattle.std.specs.Bool.{then_some}
use Rattle.std.specs.List.{fold, zip, list_all, swap}
use Rattle.std.proofs.lemmas.List.{get_or_default}
use Rattle.std.proofs.lemmas.List.Folds.{list_all_more}
use Rattle.std.proofs.Common.{lit<}
use Prim.Native.Nat.{ℕ, zero, suc, ◌+◌, ◌-◌, ◌≤◌, ◌<◌}
use native.Mathlib.Numerals.{add-one}
use native.Mathlib.Omega.{arith}
use borrow.Author.Count.{below_more}
use lib.ListN.{length, get_or, set, replicate, take, drop, length-set, length-drop}
use lib.Seq.{get_or-set_same, get_or-set_other, get_or-drop}
use lib.Ieee as Ieee
use lib.Ieee.{Float, nan}
use lib.Ieee.Scale.{finite}
use Rattle.definition.specs.Number.{plus, minus, times, over, zero64, neg_zero}
use Rattle.definition.specs.Vector.{fold_to, word, sum, all_finite, ◌and_then◌, finite_only}
use Rattle.definition.specs.Solve.{Matrix, System, system, entry, scale_of, pivot_of, swap_rows, swap_words, less_row, less_pivot, eliminated}
use Rattle.definition.specs.Solve.{pivots, on_column, column, triangular, backward, solve}
use Rattle.area.proofs.Laws.{looped_stays, fold_first}
use Rattle.solve.specs.declared.Cleared.{Cleared}
use Rattle.solve.specs.declared.factors.Factors.{Factors}
use Rattle.solve.specs.Steps.{cleared_to, stepped, forward_to, Eliminates, regular}
use Rattle.solve.specs.Factors.{Clears, taken, Triangular, Factored, solved_by}

-- ---- a loop over a .. n - 1: s is what z has become at turn i

pub record Ran {A : Type 0} (a n : ℕ) (step : ℕ → A → A) (z s : A) (i : ℕ) : Type 0 where
  pub from : a ≤ i
  pub upto : i ≤ n
  pub is : s ≡ fold_to (i - a) (λ d. step (a + d)) z

pub ran_none : {A : Type 0} {a n : ℕ} {step : ℕ → A → A} {z : A} → a ≤ n → Ran a n step z z a
unfolding fold_to
ran_none {a = a} l = record { from = omega arith; upto = l; is = let e : a - a ≡ 0 = omega arith in rw e }

pub ran_more : {A : Type 0} {a n : ℕ} {step : ℕ → A → A} {z s t : A} {i : ℕ} → Ran a n step z s i → i < n → t ≡ step i s → Ran a n step z t (i + 1)
unfolding fold_to
ran_more {a = a} {step = step} {z = z} {i = i} r h e =
    let q : i + 1 - a ≡ suc (i - a) = omega (arith, r.from) in
    let p : a + (i - a) ≡ i = omega (arith, r.from) in
    record {
      from = omega (arith, r.from);
      upto = omega arith;
      is = rw (q, p) (e ∙ ap (step i) r.is);
    }

pub ran_done : {A : Type 0} {a n : ℕ} {step : ℕ → A → A} {z s : A} {i : ℕ} → Ran a n step z s i → n ≤ i → s ≡ fold_to (n - a) (λ d. step (a + d)) z
ran_done {n = n} {i = i} r h = let e : i ≡ n = omega (arith, r.upto) in rw e at r.is

pub ruleset loops = (ran_none, ran_more, ran_done)

-- ---- the first m places of two rows, multiplied place by place and added up

products : (xs ys : List Float) (m : ℕ) (z : Float) → m ≤ length xs → m ≤ length ys
    → fold plus z (map (λ (p : Float × Float). times p.0 p.1) (zip (take m xs) (take m ys)))
    ≡ fold_to m (λ i s. plus s (times (word xs i) (word ys i))) z
unfolding fold_to
products xs ys zero z l e = refl
products [] ys (suc m) z l e = absurd (omega arith)
products (x ∷ xs) [] (suc m) z l e = absurd (omega arith)
products (x ∷ xs) (y ∷ ys) (suc m) z l e =
    products xs ys m (plus z (times x y)) (omega arith) (omega arith)
    ∙ sym (fold_first m (λ i s. plus s (times (word (x ∷ xs) i) (word (y ∷ ys) i))) z)

-- those from place `at` on
pub products_from : (xs ys : List Float) (at m : ℕ) → at + m ≤ length xs → at + m ≤ length ys
    → fold plus neg_zero (map (λ (p : Float × Float). times p.0 p.1) (zip (take m (drop at xs)) (take m (drop at ys))))
    ≡ sum m (λ d. times (word xs (at + d)) (word ys (at + d)))
products_from xs ys at m l e =
    products (drop at xs) (drop at ys) m neg_zero (rw length-drop (omega arith)) (rw length-drop (omega arith))
    ∙ (λ j. fold_to m (λ d s. plus s (times (get_or-drop at xs d nan j) (get_or-drop at ys d nan j))) neg_zero)

-- ---- two places that change places

swapped : {A : Type 0} (z : A) (xs : List A) (i j : ℕ) → i < length xs → j < length xs → swap xs i j ≡ set (set xs i (get_or xs j z)) j (get_or xs i z)
swapped z [] i j l m = refl
swapped z (x ∷ xs) i j l m = λ t. set (set (x ∷ xs) i (get_or_default (x ∷ xs) j x z m t)) j (get_or_default (x ∷ xs) i x z l t)

pub rows_swapped : (a : Matrix) (k p : ℕ) → k < length a → p < length a → swap a k p ≡ swap_rows a k p
rows_swapped = swapped []

pub words_swapped : (b : List Float) (k p : ℕ) → k < length b → p < length b → swap b k p ≡ swap_words b k p
words_swapped = swapped nan

-- ---- the rows below row k, with their multipliers

-- row i and its multiplier
abbrev pub cleared_row : ℕ → ℕ → ℕ → Matrix × List Float → Matrix × List Float
cleared_row n k i s = let x = over (entry s.0 i k) (entry s.0 k k) in (less_row n x s.0 k i, set s.1 i x)

abbrev rows_to : ℕ → ℕ → Matrix → ℕ → Matrix × List Float
rows_to n k a d = fold_to d (λ d. cleared_row n k (k + 1 + d)) (a, replicate 32 zero64)

-- a multiplier that is not yet used
cleared_kept : (d k : ℕ) (m : List Float) (x : Float) (b : List Float) (i : ℕ) → k + 1 + d ≤ i → cleared_to d k (set m i x) b ≡ cleared_to d k m b
unfolding cleared_to fold_to
cleared_kept zero k m x b i l = refl
cleared_kept (suc d) k m x b i l =
    let e = cleared_kept d k m x b i (omega arith) in
    let w = get_or-set_other m i (k + 1 + d) x nan (λ q. omega arith) in
    λ j. set (e j) (k + 1 + d) (minus (word (e j) (k + 1 + d)) (times (w j) (word (e j) k)))

rows_long : (n k : ℕ) (a : Matrix) (d : ℕ) → length (rows_to n k a d).1 ≡ 32
unfolding fold_to
rows_long n k a zero = refl
rows_long n k a (suc d) = simp length-set (rows_long n k a d)

rows_are : (n k : ℕ) (a : Matrix) (b : List Float) (d : ℕ) → k + 1 + d ≤ 32
    → system (rows_to n k a d).0 (cleared_to d k (rows_to n k a d).1 b) ≡ fold_to d (λ d s. less_pivot n k (k + 1 + d) s) (system a b)
unfolding cleared_to fold_to
rows_are n k a b zero l = refl
rows_are n k a b (suc d) l =
    let i = k + 1 + d in
    let s = rows_to n k a d in
    let x = over (entry s.0 i k) (entry s.0 k k) in
    let q = cleared_kept d k s.1 x b i (omega arith) in
    let w : word (set s.1 i x) i ≡ x = get_or-set_same s.1 i x nan (omega (arith, rows_long n k a d)) in
    (λ j. system (less_row n x s.0 k i) (set (q j) i (minus (word (q j) i) (times (w j) (word (q j) k)))))
    ∙ ap (less_pivot n k i) (rows_are n k a b d (omega arith))

pub eliminates : {n k : ℕ} {a t : Matrix} {m : List Float} → k < n → n ≤ 32
    → (t, m) ≡ fold_to (n - (k + 1)) (λ d. cleared_row n k (k + 1 + d)) (a, replicate 32 zero64) → Eliminates n k a m t
unfolding eliminated
eliminates {n} {k} {a} l h e = record {
  is = λ b. (λ j. system (e j).0 (cleared_to (n - (k + 1)) k (e j).1 b)) ∙ rows_are n k a b (n - (k + 1)) (omega arith);
}

-- ---- column k, the pivot being brought up from row p

module _ (n : ℕ) (scale : Float) (k : ℕ) (a : Matrix) {p : ℕ} {t : Matrix} (at : p ≡ pivot_of n a k) (moved : t ≡ swap_rows a k p) where
  on : (b : List Float) → on_column n scale k (system t (swap_words b k p)) ≡ column n scale k (Some (system a b))
  on b = ap (on_column n scale k) (λ j. system ((moved ∙ ap (swap_rows a k) at) j) (swap_words b k (at j)))

  pub cleared : {m : List Float} {u : Matrix} → p < n → pivots scale (entry t k k) ≡ true → Eliminates n k t m u
      → Clears n scale k a (Some (record { row = p; multipliers = m })) u
  unfolding on_column
  cleared l h e = record { within = l; is = λ b. rw (← on b, h, e.is (swap_words b k p)) }

  pub stuck : (u : Matrix) → pivots scale (entry t k k) ≡ false → Clears n scale k a None u
  unfolding on_column
  stuck u h = record { within = tt; is = λ b. rw (← on b, h) }

-- ---- every column: a is t after k of them, with their multipliers in f and their rows in p

pub record Columns (n : ℕ) (scale : Float) (a t f : Matrix) (p : List ℕ) (k : ℕ) : Type 0 where
  pub upto : k ≤ n
  pub rows : length f ≡ 32
  pub places : length p ≡ 32
  pub within : (j : ℕ) → j < k → get_or p j 0 < 32
  pub is : (b : List Float) → Some (system t (forward_to k n f p b)) ≡ fold_to k (column n scale) (Some (system a b))

-- a step that is not yet taken
forward_kept : (j n : ℕ) (f : Matrix) (p : List ℕ) (k : ℕ) (m : List Float) (q : ℕ) (b : List Float) → j ≤ k
    → forward_to j n (set f k m) (set p k q) b ≡ forward_to j n f p b
unfolding forward_to fold_to
forward_kept zero n f p k m q b l = refl
forward_kept (suc j) n f p k m q b l =
    let r = get_or-set_other f k j m [] (λ e. omega arith) in
    let s = get_or-set_other p k j q 0 (λ e. omega arith) in
    let x = forward_kept j n f p k m q b (omega arith) in
    λ i. stepped n j (r i) (s i) (x i)

pub zeros_within : (n j : ℕ) → get_or (replicate n 0) j 0 < 32
zeros_within zero j = lit< tt
zeros_within (suc n) zero = lit< tt
zeros_within (suc n) (suc j) = zeros_within n j

pub columns_none : {n : ℕ} {scale : Float} {a f : Matrix} {p : List ℕ} → length f ≡ 32 → length p ≡ 32 → Columns n scale a a f p 0
unfolding forward_to fold_to
columns_none l m = record { upto = omega arith; rows = l; places = m; within = λ j h. absurd (omega arith); is = λ b. refl }

pub columns_more : {n : ℕ} {scale : Float} {a t f : Matrix} {p : List ℕ} {k : ℕ} {c : Cleared} {u : Matrix}
    → Columns n scale a t f p k → k < n → n ≤ 32 → Clears n scale k t (Some c) u → Columns n scale a u (set f k c.multipliers) (set p k c.row) (k + 1)
unfolding forward_to fold_to
columns_more {n} {scale} {a} {t} {f} {p} {k} {c} {u} r l top e = record {
  upto = omega arith;
  rows = simp length-set r.rows;
  places = simp length-set r.places;
  within = below_more (λ (j : ℕ). get_or (set p k c.row) j 0 < 32) k
      (λ j h. rw (get_or-set_other p k j c.row 0 (λ d. omega arith)) (r.within j h))
      (rw (get_or-set_same p k c.row 0 (omega (arith, r.places))) (let low : c.row < n = e.within in omega arith));
  is = λ b.
      let x = forward_kept k n f p k c.multipliers c.row b (omega arith) in
      let g = get_or-set_same f k c.multipliers [] (omega (arith, r.rows)) in
      let h = get_or-set_same p k c.row 0 (omega (arith, r.places)) in
      rw add-one
      ((λ i. Some (system u (stepped n k (g i) (h i) (x i))))
      ∙ e.is (forward_to k n f p b)
      ∙ ap (column n scale k) (r.is b));
}

-- what k columns make of every right side, wherever the rows exchanged stand
abbrev pub ColumnsMake : ℕ → Float → Matrix → Matrix → Matrix → List ℕ → ℕ → Type 0
ColumnsMake n scale a t f p k = (b : List Float) → Some (system t (forward_to k n f p b)) ≡ fold_to k (column n scale) (Some (system a b))

pub make_stopped : {n : ℕ} (scale : Float) (a t f : Matrix) (p : List ℕ) {k : ℕ} {u : Matrix} → ColumnsMake n scale a t f p k → k < n
    → Clears n scale k t None u → (b : List Float) → None ≡ triangular n scale (system a b)
unfolding triangular fold_to
make_stopped {n} scale a t f p {k} r l e b =
    looped_stays {n = n} {step = column n scale} {z = Some (system a b)} {s = None} {i = k + 1} (λ j. refl)
    (record { upto = omega arith; is = rw add-one (e.is (forward_to k n f p b) ∙ ap (column n scale k) (r b)) })

pub make_done : {n : ℕ} (scale : Float) (a t f : Matrix) (p : List ℕ) {k : ℕ} → ColumnsMake n scale a t f p k → k ≡ n
    → (b : List Float) → Some (system t (forward_to n n f p b)) ≡ triangular n scale (system a b)
unfolding triangular
make_done scale a t f p r e b = rw e at (r b)

pub columns_stopped : {n : ℕ} {scale : Float} {a t f : Matrix} {p : List ℕ} {k : ℕ} {u : Matrix} (g : Factors)
    → Columns n scale a t f p k → k < n → Clears n scale k t None u → Triangular n scale a false g
columns_stopped {n} {scale} {a} {t} {f} {p} {k} g r l e =
    record { within = λ d. absurd (false≢true d); is = make_stopped scale a t f p r.is l e }

pub columns_done : {n : ℕ} {scale : Float} {a : Matrix} {k : ℕ} (g : Factors) → Columns n scale a g.rows g.multipliers g.order k → n ≤ k
    → Triangular n scale a true g
columns_done {n} {scale} {a} {k} g r l = record {
  within = λ d j h. r.within j (omega arith);
  is = make_done scale a g.rows g.multipliers g.order r.is (omega (arith, r.upto));
}

-- ---- the factors, and the solution by them

-- what the factors make of every right side: the elimination of a by its first n rows and columns, where its scale is regular
abbrev pub FactorsMake : ℕ → Matrix → Factors → Type 0
FactorsMake n a f = (b : List Float) → taken f.complete n b f ≡ cond (regular (scale_of n a)) (triangular n (scale_of n a) (system a b)) None

pub make_regular : (n : ℕ) (a : Matrix) {s : Float} (f : Factors) → s ≡ scale_of n a → regular s ≡ true
    → ((b : List Float) → taken f.complete n b f ≡ triangular n s (system a b)) → FactorsMake n a f
make_regular n a f e h r b = r b ∙ rw (← e, h)

pub factors : {n : ℕ} {a : Matrix} {s : Float} (f : Factors) → s ≡ scale_of n a → regular s ≡ true → Triangular n s a f.complete f → Factored n a f
factors {n} {a} f e h r = record { within = r.within; is = make_regular n a f e h r.is }

pub finite_to : (b : List Float) (n : ℕ) → n ≤ length b → list_all finite (take n b) ≡ all_finite n b
unfolding fold_to
finite_to b zero l = refl
finite_to b (suc n) l = rw (← add-one) (list_all_more finite b n nan (omega arith) ∙ ap (λ t. t && finite (word b n)) (finite_to b n (omega arith)))

tested : (k : System → Option (List Float)) (f z g : Bool) (s : Option System)
    → cond g (cond (f && z) s None and_then k) None ≡ cond (f && z && g) (s and_then k) None
tested k true true true s = refl
tested k true true false s = refl
tested k true false true s = refl
tested k true false false s = refl
tested k false z true s = refl
tested k false z false s = refl

pub if_true : {A : Type 0} (t : Bool) (x : A) → then_some t x ≡ cond t (Some x) None
if_true true x = refl
if_true false x = refl

pub neither : {A : Type 0} (g : Bool) → ◌≡◌ {A = Option A} None (cond g None None)
neither true = refl
neither false = refl

pub make_solve : (n : ℕ) (a : Matrix) (f : Factors) → FactorsMake n a f → (b : List Float) → solved_by n f b ≡ solve n a b
unfolding solved_by solve
make_solve n a f r b =
    let s = scale_of n a in
    let back : System → Option (List Float) = λ s. finite_only n (backward n s) in
    ap (λ (o : Option System). cond (all_finite n b) (o and_then back) None) (r b)
    ∙ tested back (finite s) (not (Ieee.eq s zero64)) (all_finite n b) (triangular n s (system a b))

pub factors_solve : {n : ℕ} {a : Matrix} {f : Factors} (b : List Float) → Factored n a f → solved_by n f b ≡ solve n a b
factors_solve {n} {a} {f} b r = make_solve n a f r.is b
