-- Laws of folds over the indices from 0 on. Assumes nothing.
use mathlib.Core.Path.{◌≡◌, refl, ap, ◌∙◌}
use mathlib.Core.List.{List, [], ◌∷◌, ◌++◌}
use Prim.Native.Nat.{ℕ, zero, suc, ◌+◌, ◌<◌}
use native.Mathlib.Omega.{arith}
use lib.Ieee.{Float}
use Rattle.std.specs.List.{fold, range_with_len}
use Rattle.std.proofs.lemmas.List.Sums.{fold-append}
use Rattle.definition.specs.Vector.{fold_to}
use Rattle.area.specs.Area.{view, words_at, fold_rows}
use Rattle.area.proofs.Laws.{word-view}

pub fold_same : {A : Type 0} (n : ℕ) (f g : ℕ → A → A) (z : A) → ((k : ℕ) (r : A) → k < n → f k r ≡ g k r) → fold_to n f z ≡ fold_to n g z
unfolding fold_to
fold_same zero f g z h = refl
fold_same (suc n) f g z h = h n (fold_to n f z) (omega arith) ∙ ap (g n) (fold_same n f g z (λ k r l. h k r (omega arith)))

range_from : (a n : ℕ) → range_with_len a (suc n) ≡ range_with_len a n ++ ((a + n) ∷ [])
range_from a zero = let e : a ≡ a + 0 = omega arith in ap (λ (k : ℕ). k ∷ []) e
range_from a (suc n) =
    let e : a + 1 + n ≡ a + suc n = omega arith in
    ap (λ l. a ∷ l) (range_from (a + 1) n ∙ ap (λ (k : ℕ). range_with_len (a + 1) n ++ (k ∷ [])) e)

pub range_more : (n : ℕ) → range_with_len 0 (suc n) ≡ range_with_len 0 n ++ (n ∷ [])
range_more n = let e : 0 + n ≡ n = omega arith in rw e at (range_from 0 n)

pub fold_range : {A : Type 0} (step : A → ℕ → A) (z : A) (n : ℕ) → fold step z (range_with_len 0 n) ≡ fold_to n (λ i s. step s i) z
unfolding fold_to
fold_range step z zero = refl
fold_range step z (suc n) =
    ap (fold step z) (range_more n) ∙ fold-append step z (range_with_len 0 n) (n ∷ []) ∙ ap (λ s. step s n) (fold_range step z n)

-- the words at each index in turn
pub folded : {A : Type 0} (a : List Float) (n : ℕ) (h : ℕ → (ℕ → Float) → A → A) (z : A)
    → fold (λ s i. h i (words_at a n i) s) z (range_with_len 0 n) ≡ fold_rows z h n (view a n)
unfolding fold_rows
folded a n h z =
    fold_range (λ s i. h i (words_at a n i) s) z n
    ∙ fold_same n (λ i s. h i (words_at a n i) s) _ z (λ i s l k. h i (λ (q : ℕ). word-view a n q i l k) s)
