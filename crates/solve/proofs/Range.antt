-- The rows that an elimination exchanges are among its own, and no right side is solved by an order that leaves the right side's places. Assumes nothing.
use mathlib.Core.Path.{◌≡◌, refl, sym, ap, subst, ◌∙◌}
use mathlib.Core.Bool.{Bool, true, false, cond, true≢false}
use mathlib.Core.List.{List, [], ◌∷◌}
use mathlib.Core.Logic.{◌⊎◌, inl, inr}
use Prim.Native.Nat.{ℕ, zero, suc, ◌+◌, ◌-◌, ◌≤◌, ◌<◌}
use native.Mathlib.Omega.{arith}
use Rattle.std.specs.Prelude.{Option, None, Some}
use Rattle.std.specs.List.{list_all}
use Rattle.std.proofs.lemmas.Bool.{cases_lt, cases_eq, and_cases, and_left, and_right, cond_both}
use Rattle.std.proofs.lemmas.Option.{none-some, same_Some, cond_some}
use lib.ListN.{length, get_or, set, replicate, length-set, get_or-eq_default, length-replicate}
use lib.Seq.{get_or-set_same, get_or-set_other}
use lib.Ieee as Ieee
use lib.Ieee.{Float, nan, inf, fin, is_nan}
use lib.Ieee.Scale.{finite}
use lib.IntN.{pos}
use Rattle.definition.specs.Number.{minus, times, over, zero64, magnitude_le}
use Rattle.definition.specs.Vector.{fold_to, word, all_finite, ◌and_then◌, finite_only}
use Rattle.definition.specs.Solve.{Matrix, System, system, row, entry, scale_of, pivot_of, swap_words, swapped, less_pivot, eliminated}
use Rattle.definition.specs.Solve.{pivots, on_column, column, triangular, back_row, backward}
use Rattle.solve.specs.declared.factors.Factors.{Factors}
use Rattle.solve.specs.Steps.{cleared_to, stepped, forward_to, OrderInRange, regular}
use Rattle.solve.specs.Factors.{taken, Triangular, Factored, solved_by}
use Rattle.solve.proofs.Steps.{ColumnsMake, Columns, FactorsMake}

-- ---- words that are a NaN

minus_nan : (x y : Float) → x ≡ nan → minus x y ≡ nan
unfolding Ieee.sub Ieee.add
minus_nan x y e = ap (λ (z : Float). minus z y) e

from_nan : (x y : Float) → y ≡ nan → minus x y ≡ nan
unfolding Ieee.sub Ieee.add Ieee.neg
from_nan nan y e = ap (minus nan) e
from_nan (inf s) y e = ap (minus (inf s)) e
from_nan (fin s m d) y e = ap (minus (fin s m d)) e

times_nan : (x y : Float) → y ≡ nan → times x y ≡ nan
unfolding Ieee.mul
times_nan nan y e = ap (times nan) e
times_nan (inf s) y e = ap (times (inf s)) e
times_nan (fin s m d) y e = ap (times (fin s m d)) e

over_nan : (x y : Float) → x ≡ nan → over x y ≡ nan
unfolding Ieee.div
over_nan x y e = ap (λ (z : Float). over z y) e

-- what holds of a list at place i, once x is put to place k, wherever that is
held_set : {A : Type 0} (P : A → Type 0) (z : A) → P z → (b : List A) (k i : ℕ) (x : A) → (i ≡ k → P x) → ((i ≡ k → ⊥) → P (get_or b i z))
    → P (get_or (set b k x) i z)
held_set P z p [] k i x h r = p
held_set P z p (y ∷ b) zero zero x h r = h refl
held_set P z p (y ∷ b) zero (suc i) x h r = r (λ e. omega (arith, e))
held_set P z p (y ∷ b) (suc k) zero x h r = r (λ e. omega (arith, e))
held_set P z p (y ∷ b) (suc k) (suc i) x h r = held_set P z p b k i x (λ e. h (ap suc e)) (λ d. r (λ e. d (omega (arith, e))))

nan_set : (b : List Float) (k i : ℕ) (x : Float) → (i ≡ k → x ≡ nan) → ((i ≡ k → ⊥) → word b i ≡ nan) → word (set b k x) i ≡ nan
nan_set = held_set (λ (x : Float). x ≡ nan) nan refl

nan_swapped : (b : List Float) (k p i : ℕ) → (i ≡ p → word b k ≡ nan) → (i ≡ k → word b p ≡ nan)
    → ((i ≡ p → ⊥) → (i ≡ k → ⊥) → word b i ≡ nan) → word (swap_words b k p) i ≡ nan
nan_swapped b k p i f g h = nan_set (set b k (word b p)) p i (word b k) f (λ d. nan_set b k i (word b p) g (h d))

nan_cleared : (d k : ℕ) (m b : List Float) (i : ℕ) → word b i ≡ nan → word (cleared_to d k m b) i ≡ nan
unfolding cleared_to fold_to
nan_cleared zero k m b i h = h
nan_cleared (suc d) k m b i h =
    let c = cleared_to d k m b in
    let g = nan_cleared d k m b i h in
    let j = k + 1 + d in
    nan_set c j i (minus (word c j) (times (word m j) (word c k)))
    (λ e. minus_nan (word c j) (times (word m j) (word c k)) (ap (word c) (sym e) ∙ g))
    (λ e. g)

nan_stepped : (n k : ℕ) (m b : List Float) (p i : ℕ) → (i ≡ p → word b k ≡ nan) → (i ≡ k → word b p ≡ nan)
    → ((i ≡ p → ⊥) → (i ≡ k → ⊥) → word b i ≡ nan) → word (stepped n k m p b) i ≡ nan
nan_stepped n k m b p i f g h = nan_cleared (n - (k + 1)) k m (swap_words b k p) i (nan_swapped b k p i f g h)

-- ---- one word alone, at place p, that the steps meet or pass by

-- every word but that of place p is a NaN
abbrev Others : ℕ → List Float → Type 0
Others p b = (i : ℕ) → (i ≡ p → ⊥) → word b i ≡ nan

-- every word from place k on is a NaN
abbrev From : ℕ → List Float → Type 0
From k b = (i : ℕ) → k ≤ i → word b i ≡ nan

passed_by : (n k : ℕ) (m b : List Float) {p q : ℕ} → k < p → (q ≡ p → ⊥) → Others p b → Others p (stepped n k m q b)
passed_by n k m b {q = q} l d o = λ i e. nan_stepped n k m b q i (λ _. o k (λ f. omega (arith, f))) (λ _. o q d) (λ _ _. o i e)

met : (n k : ℕ) (m b : List Float) {p q : ℕ} → k < p → q ≡ p → Others p b → From (suc k) (stepped n k m q b)
met n k m b {q = q} l e o =
    λ i h. nan_stepped n k m b q i (λ _. o k (λ f. omega (arith, f))) (λ f. absurd (omega (arith, f))) (λ d _. o i (λ f. d (f ∙ sym e)))

lost_on : (n k : ℕ) (m b : List Float) (q : ℕ) → From k b → From (suc k) (stepped n k m q b)
lost_on n k m b q f = λ i h. nan_stepped n k m b q i (λ _. f k (omega arith)) (λ e. absurd (omega (arith, e))) (λ _ _. f i (omega arith))

module _ (n : ℕ) (f : Matrix) (order : List ℕ) (b : List Float) {p : ℕ} (o : Others p b) where
  seen : (j : ℕ) → j ≤ p → Others p (forward_to j n f order b) ⊎ From j (forward_to j n f order b)
  unfolding forward_to fold_to
  seen zero l = inl o
  seen (suc j) l =
      let q = get_or order j 0 in
      let m = row f j in
      let x = forward_to j n f order b in
      elim (seen j (omega arith)) [
        | inl w ↦ elim (cases_eq q p) [
          | inl e ↦ inr (met n j m x (omega arith) e w)
          | inr d ↦ inl (passed_by n j m x (omega arith) d w)
        ]
        | inr w ↦ inr (lost_on n j m x q w)
      ]

  lost : (j : ℕ) {i : ℕ} → i < j → get_or order i 0 ≡ p → j ≤ p → From j (forward_to j n f order b)
  unfolding forward_to fold_to
  lost zero h e l = absurd (omega arith)
  lost (suc j) {i} h e l =
      let m = row f j in
      let q = get_or order j 0 in
      let x = forward_to j n f order b in
      elim (cases_lt i j) [
        | inl u ↦ lost_on n j m x q (lost j u e (omega arith))
        | inr u ↦ elim (seen j (omega arith)) [
          | inl w ↦ met n j m x (omega arith) (ap (λ (k : ℕ). get_or order k 0) (let z : j ≡ i = omega (arith, u, h) in z) ∙ e) w
          | inr w ↦ lost_on n j m x q w
        ]
      ]

-- ---- what the definition's elimination leaves as it was

pivot_below : (n k : ℕ) (a : Matrix) → k < n → pivot_of n a k < n
unfolding pivot_of fold_to
pivot_below n k a l = go (n - (k + 1)) (omega arith)
  where
    go : (d : ℕ) → k + 1 + d ≤ n → fold_to d (λ d best. cond (magnitude_le (entry a best k) (entry a (k + 1 + d) k)) (k + 1 + d) best) k < n
    go zero h = l
    go (suc d) h =
        let low = go d (omega arith) in
        cond_both (magnitude_le (entry a _ k) (entry a (k + 1 + d) k)) (k + 1 + d) _ (λ (i : ℕ). i < n) (λ e. omega arith) (λ e. low)

right_kept : (n k p : ℕ) (s : System) (d : ℕ) → k + 1 + d ≤ p → word (fold_to d (λ d t. less_pivot n k (k + 1 + d) t) s).right p ≡ word s.right p
unfolding fold_to
right_kept n k p s zero l = refl
right_kept n k p s (suc d) l =
    let t = fold_to d (λ d t. less_pivot n k (k + 1 + d) t) s in
    get_or-set_other t.right (k + 1 + d) p _ nan (λ e. omega (arith, e)) ∙ right_kept n k p s d (omega arith)

module _ (n : ℕ) (scale : Float) (s : System) {p : ℕ} (l : n ≤ p) where
  column_kept : (j : ℕ) (u t : System) → j < n → column n scale j (Some u) ≡ Some t → word t.right p ≡ word u.right p
  unfolding on_column eliminated
  column_kept j u t h e =
      let q = pivot_of n u.rows j in
      let low = pivot_below n j u.rows h in
      let w = swapped u j q in
      ap (λ (r : System). word r.right p) (sym (cond_some (pivots scale (entry w.rows j j)) _ _ e).1)
      ∙ right_kept n j p w (n - (j + 1)) (omega arith)
      ∙ get_or-set_other (set u.right j (word u.right q)) q p (word u.right j) nan (λ f. omega (arith, f, low))
      ∙ get_or-set_other u.right j p (word u.right q) nan (λ f. omega (arith, f))

  columns_kept : (j : ℕ) → j ≤ n → {t : System} → fold_to j (column n scale) (Some s) ≡ Some t → word t.right p ≡ word s.right p
  unfolding fold_to
  columns_kept zero h e = ap (λ (r : System). word r.right p) (sym (same_Some _ _ e))
  columns_kept (suc j) h {t} e = go (fold_to j (column n scale) (Some s)) (λ u. columns_kept j (omega arith)) e
    where
      go : (o : Option System) → ((u : System) → o ≡ Some u → word u.right p ≡ word s.right p) → column n scale j o ≡ Some t → word t.right p ≡ word s.right p
      go None f g = absurd (none-some _ g)
      go (Some u) f g = column_kept j u t (omega arith) g ∙ f u refl

-- ---- the rows exchanged are the elimination's own

blank : (m i : ℕ) → word (replicate m nan) i ≡ nan
blank zero i = refl
blank (suc m) zero = refl
blank (suc m) (suc i) = blank m i

-- one word that is no NaN, at place p
abbrev one : Float
one = fin false 1 (pos 0)

abbrev lone : ℕ → List Float
lone p = set (replicate (suc p) nan) p one

lone_others : (p : ℕ) → Others p (lone p)
lone_others p i d = nan_set (replicate (suc p) nan) p i one (λ e. absurd (d e)) (λ _. blank (suc p) i)

lone_one : (p : ℕ) → word (lone p) p ≡ one
lone_one p = get_or-set_same (replicate (suc p) nan) p one nan (rw length-replicate (omega arith))

pub exchanged_below : {n k : ℕ} (scale : Float) (a t f : Matrix) (order : List ℕ) → k ≤ n → ColumnsMake n scale a t f order k
    → (j : ℕ) → j < k → get_or order j 0 < n
unfolding is_nan
exchanged_below {n} {k} scale a t f order l is j h =
    let p = get_or order j 0 in
    let b = lone p in
    elim (cases_lt p n) [
      | inl below ↦ below
      | inr past ↦
          let kept : word (forward_to k n f order b) p ≡ word b p = columns_kept n scale (system a b) past k l (sym (is b)) in
          let gone : word (forward_to k n f order b) p ≡ nan = lost n f order b (lone_others p) k h refl (omega (arith, past)) p (omega (arith, past)) in
          absurd (true≢false (ap is_nan (sym gone ∙ kept ∙ lone_one p)))
    ]

-- ---- so what the elimination makes of every right side says where the rows of the order are

in_range : {n : ℕ} (scale : Float) (a : Matrix) (f : Factors) → n ≤ 32 → ((b : List Float) → taken true n b f ≡ triangular n scale (system a b))
    → OrderInRange n f.order
unfolding triangular
in_range scale a f l is = λ j h. let below = exchanged_below scale a f.rows f.multipliers f.order (omega arith) is j h in omega (arith, below)

pub triangular_of : {n : ℕ} {scale : Float} {a : Matrix} {ok : Bool} {f : Factors} → n ≤ 32
    → ((b : List Float) → taken ok n b f ≡ triangular n scale (system a b)) → Triangular n scale a ok f
triangular_of {n} {scale} {a} {ok} {f} l is =
    record { within = λ e. in_range scale a f l (λ b. ap (λ (t : Bool). taken t n b f) (sym e) ∙ is b); is = is }

pub factored_of : {n : ℕ} {a : Matrix} {f : Factors} → n ≤ 32 → FactorsMake n a f → Factored n a f
factored_of {n} {a} {f} l is = record { within = λ e. go (regular (scale_of n a)) (λ b. ap (λ (t : Bool). taken t n b f) (sym e) ∙ is b); is = is }
  where
    go : (t : Bool) → ((b : List Float) → taken true n b f ≡ cond t (triangular n (scale_of n a) (system a b)) None) → OrderInRange n f.order
    go true r = in_range (scale_of n a) a f l r
    go false r = absurd (none-some _ (sym (r [])))

pub columns_of : {n : ℕ} (scale : Float) (a t f : Matrix) (order : List ℕ) {k : ℕ} → n ≤ 32 → k ≤ n → length f ≡ 32 → length order ≡ 32
    → ColumnsMake n scale a t f order k → Columns n scale a t f order k
columns_of {n} scale a t f order {k} l m rows places is = record {
  upto = m;
  rows = rows;
  places = places;
  within = λ j h. let below = exchanged_below scale a t f order m is j h in omega (arith, below);
  is = is;
}

-- an order in range stays so with one of the 32 put in it
pub range_set : {n : ℕ} (order : List ℕ) (k row : ℕ) → row < 32 → OrderInRange n order → OrderInRange n (set order k row)
range_set order k row l r = λ j h. held_set (λ (p : ℕ). p < 32) 0 (omega arith) order k j row (λ _. l) (λ _. r j h)

-- ---- an order that leaves the right side's places: a NaN stays, and there is no solution

cleared_length : (d k : ℕ) (m b : List Float) → length (cleared_to d k m b) ≡ length b
unfolding cleared_to fold_to
cleared_length zero k m b = refl
cleared_length (suc d) k m b = length-set (cleared_to d k m b) (k + 1 + d) _ ∙ cleared_length d k m b

forward_length : (j n : ℕ) (f : Matrix) (order : List ℕ) (b : List Float) → length (forward_to j n f order b) ≡ length b
unfolding forward_to fold_to
forward_length zero n f order b = refl
forward_length (suc j) n f order b =
    let x = forward_to j n f order b in
    let p = get_or order j 0 in
    cleared_length (n - (j + 1)) j (row f j) (swap_words x j p)
    ∙ length-set (set x j (word x p)) p (word x j)
    ∙ length-set x j (word x p)
    ∙ forward_length j n f order b

-- a NaN at place k goes to all the places that it clears
nan_spread : (d k : ℕ) (m b : List Float) (i : ℕ) → word b k ≡ nan → k < i → i < k + 1 + d → word (cleared_to d k m b) i ≡ nan
unfolding cleared_to fold_to
nan_spread zero k m b i e h l = absurd (omega arith)
nan_spread (suc d) k m b i e h l =
    let c = cleared_to d k m b in
    let j = k + 1 + d in
    nan_set c j i (minus (word c j) (times (word m j) (word c k)))
    (λ _. from_nan (word c j) (times (word m j) (word c k)) (times_nan (word m j) (word c k) (nan_cleared d k m b k e)))
    (λ f. nan_spread d k m b i e h (omega (arith, (λ (q : i ≡ j). f q))))

-- after j steps: a NaN at place k, and at every place from j on
abbrev Lost : ℕ → ℕ → ℕ → List Float → Type 0
Lost n k j b = (word b k ≡ nan) × ((i : ℕ) → j ≤ i → i < n → word b i ≡ nan)

lost_at : (n k : ℕ) (m b : List Float) (p : ℕ) → k < n → length b ≤ p → Lost n k (suc k) (stepped n k m p b)
lost_at n k m b p l h =
    let none : word b p ≡ nan = get_or-eq_default b nan {n = p} h in
    let y = swap_words b k p in
    let here : word y k ≡ nan = nan_swapped b k p k (λ e. ap (word b) e ∙ none) (λ _. none) (λ _ d. absurd (d refl)) in
    (nan_cleared (n - (k + 1)) k m y k here, λ i a b. nan_spread (n - (k + 1)) k m y i here a (omega arith))

lost_still : (n k j : ℕ) (m b : List Float) (p : ℕ) → k < j → j < n → Lost n k j b → Lost n k (suc j) (stepped n j m p b)
lost_still n k j m b p h l r = (
  nan_stepped n j m b p k (λ _. r.1 j (omega arith) l) (λ e. absurd (omega (arith, e))) (λ _ _. r.0),
  λ i a c. nan_stepped n j m b p i (λ _. r.1 j (omega arith) l) (λ e. absurd (omega (arith, e))) (λ _ _. r.1 i (omega arith) c),
)

forward_lost : (n : ℕ) (f : Matrix) (order : List ℕ) (b : List Float) (k : ℕ) → length b ≤ get_or order k 0
    → (j : ℕ) → k < j → j ≤ n → Lost n k j (forward_to j n f order b)
unfolding forward_to fold_to
forward_lost n f order b k e zero h l = absurd (omega arith)
forward_lost n f order b k e (suc j) h l =
    let x = forward_to j n f order b in
    elim (cases_lt k j) [
      | inl u ↦ lost_still n k j (row f j) x (get_or order j 0) u (omega arith) (forward_lost n f order b k e j u (omega arith))
      | inr u ↦
          let q : j ≡ k = omega (arith, u) in
          let long = forward_length j n f order b in
          subst (λ (i : ℕ). Lost n i (suc j) (stepped n j (row f j) (get_or order j 0) x)) q
          (lost_at n j (row f j) x (get_or order j 0) (omega arith) (rw (long, q) e))
    ]

-- the back substitution has a NaN at place k, once that is reached
nan_backward : (n : ℕ) (s : System) (k : ℕ) → word s.right k ≡ nan → k < n → (d : ℕ) → d ≤ n → n ≤ k + d
    → word (fold_to d (λ d x. back_row n s (n - (d + 1)) x) (replicate (length s.right) zero64)) k ≡ nan
unfolding fold_to
nan_backward n s k e l zero h m = absurd (omega arith)
nan_backward n s k e l (suc d) h m =
    let x = fold_to d (λ d x. back_row n s (n - (d + 1)) x) (replicate (length s.right) zero64) in
    let i = n - (d + 1) in
    nan_set x i k _
    (λ q. over_nan _ _ (minus_nan _ _ (ap (word s.right) (sym q) ∙ e)))
    (λ q. nan_backward n s k e l d (omega arith) (omega (arith, q)))

nan_not_finite : (v : List Float) (k : ℕ) → word v k ≡ nan → (n : ℕ) → k < n → all_finite n v ≡ false
unfolding fold_to
nan_not_finite v k e zero l = absurd (omega arith)
nan_not_finite v k e (suc n) l =
    elim (cases_lt k n) [
      | inl u ↦ and_left (all_finite n v) (finite (word v n)) (nan_not_finite v k e n u)
      | inr u ↦ let q : n ≡ k = omega (arith, u) in and_right (all_finite n v) (finite (word v n)) (ap finite (ap (word v) q ∙ e))
    ]

pub unsolved : {n : ℕ} (f : Factors) (b : List Float) {k : ℕ} → k < n → length b ≤ get_or f.order k 0 → solved_by n f b ≡ None
unfolding solved_by backward
unsolved {n} f b {k} l e = go (all_finite n b) f.complete
  where
    x : List Float
    x = backward n (system f.rows (forward_to n n f.multipliers f.order b))

    none : finite_only n x ≡ None
    none =
        let there = (forward_lost n f.multipliers f.order b k e n l (omega arith)).0 in
        rw (nan_not_finite x k (nan_backward n (system f.rows (forward_to n n f.multipliers f.order b)) k there l n (omega arith) (omega arith)) n l)

    go : (g c : Bool) → cond g (taken c n b f and_then λ s. finite_only n (backward n s)) None ≡ None
    go true true = none
    go true false = refl
    go false c = refl

-- of a list that does not pass a test throughout, an element that fails it
pub one_not : {A : Type 0} (test : A → Bool) (z : A) (xs : List A) → list_all test xs ≡ false
    → (k : ℕ) × (k < length xs) × (test (get_or xs k z) ≡ false)
one_not test z [] e = absurd (true≢false e)
one_not test z (x ∷ xs) e =
    elim (and_cases (test x) (list_all test xs) e) [
      | inl f ↦ (0, omega arith, f)
      | inr g ↦ let s = one_not test z xs g in (suc s.0, omega (arith, s.1), s.2)
    ]
