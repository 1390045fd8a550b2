-- The row of a column's pivot: of the rows from k on, the last with the largest entry in column k. Assumes nothing.
use mathlib.Core.Path.{◌≡◌, refl, sym, ap, ◌∙◌, subst}
use mathlib.Core.Bool.{cond}
use mathlib.Core.List.{List, [], ◌∷◌}
use Prim.Native.Nat.{ℕ, zero, suc, ◌+◌, ◌-◌, ◌<◌}
use native.Mathlib.Omega.{arith}
use lib.Dec.{leb}
use lib.ListN.{length, get_or, drop}
use denote.Ref.{Bor}
use Rattle.std.specs.Prelude.{Option, None, Some}
use Rattle.std.specs.Fn.{Mut, CalledAt}
use Rattle.std.specs.Option.{unwrap_or}
use Rattle.std.specs.Ordering.{nat_cmp, max_by_ordering}
use Rattle.std.specs.Iterator.{Drains, KeyTurn, PicksMaxByKey}
use Rattle.std.specs.List.{FoldsTo, range_with_len}
use Rattle.std.proofs.Common.{Ordering, map-id}
use Rattle.std.specs.declared.cmp.Ordering.TheVariants.{Less, Equal, Greater}
use Rattle.std.proofs.lemmas.Iterator.{YieldsList, items_from_drains}
use Rattle.definition.specs.Number.{abs, to_word, magnitude_le}
use Rattle.definition.specs.Vector.{fold_to}
use Rattle.definition.specs.Solve.{Matrix, entry, pivot_of}
use Rattle.solve.proofs.Steps.{Ran, ran_none, ran_more, ran_done}

-- what the rows are compared by
abbrev pub size_of : Matrix → ℕ → ℕ → ℕ
size_of a k i = to_word (abs (entry a i k))

-- of two, the later where they are level
later : (x y p q : ℕ) → max_by_ordering (nat_cmp x y) p q ≡ cond (leb x y) q p
later x y p q = grind arith

-- the key of the one picked
picked_key : (h : ℕ → ℕ) (o : Ordering) (p q : ℕ) → max_by_ordering o (h p) (h q) ≡ h (max_by_ordering o p q)
picked_key h Less p q = refl
picked_key h Equal p q = refl
picked_key h Greater p q = refl

one_below : (o : Ordering) {p q n : ℕ} → p < n → q < n → max_by_ordering o p q < n
one_below Less h l = l
one_below Equal h l = l
one_below Greater h l = h

-- what is drained
items : {S : Type 0} {steps : S → Option ℕ → S → Type 0} {s : S} {all : List ℕ} (xs : List ℕ)
    → Drains steps s xs → YieldsList steps (λ x. x) s all → xs ≡ all
items {steps = steps} {s = s} xs d y = sym (map-id xs) ∙ items_from_drains {steps = steps} {s = s} xs (d.1.0, d.1.1, λ u. (d.0, d.1.2)) y

module _ {F : Type 0} (g : Mut F (Bor ℕ × Unit {0}) ℕ) (f : F) (a : Matrix) (n k : ℕ)
    (keys : (i r : ℕ) (f' : F) → CalledAt g f i r f' → (r ≡ size_of a k i) × (f' ≡ f)) where
  abbrev step : ℕ → ℕ → ℕ
  step i best = cond (magnitude_le (entry a best k) (entry a i k)) i best

  abbrev turn : (F × ℕ) × ℕ → ℕ → (F × ℕ) × ℕ → Type 0
  turn = KeyTurn max_by_ordering max_by_ordering g nat_cmp

  -- rows i to n - 1 are still to come
  walked : (m i key best : ℕ) (q : F × ℕ) (y : ℕ) → i + m ≡ n → key ≡ size_of a k best → best < n → Ran (k + 1) n step k best i
      → FoldsTo {P = (F × ℕ) × ℕ} turn ((f, key), best) (range_with_len i m) (q, y)
      → (y < n) × (y ≡ fold_to (n - (k + 1)) (λ d. step (k + 1 + d)) k)
  walked zero i key best q y s e l r h =
      let p : best ≡ y = ap (λ (t : (F × ℕ) × ℕ). t.1) h in
      rw (← p) (l, ran_done r (omega (arith, s)))
  walked (suc m) i key best q y s e l r h =
      let t = h.1 in
      let o = nat_cmp key t.0 in
      let called = keys i t.0 h.0.0.0 t.2 in
      let z = called.0 in
      let best' : h.0.1 ≡ max_by_ordering o best i = t.5 ∙ ap (λ (o : Ordering). max_by_ordering o best i) (sym t.3) in
      let key' : h.0.0.1 ≡ max_by_ordering o key t.0 = t.4 ∙ ap (λ (o : Ordering). max_by_ordering o key t.0) (sym t.3) in
      walked m (i + 1) h.0.0.1 h.0.1 q y (omega (arith, s))
      (key' ∙ (λ j. max_by_ordering o (e j) (z j)) ∙ picked_key (size_of a k) o best i ∙ ap (size_of a k) (sym best'))
      (rw best' (one_below o l (omega (arith, s))))
      (ran_more r (omega (arith, s)) (best' ∙ later key t.0 best i ∙ (λ j. cond (leb (e j) (z j)) i best)))
      (subst (λ (u : F). FoldsTo {P = (F × ℕ) × ℕ} turn ((u, h.0.0.1), h.0.1) (range_with_len (i + 1) m) (q, y)) called.1 h.2)

  -- the row that is picked is the definition's
  pub pivots_row : {S : Type 0} {steps : S → Option ℕ → S → Type 0} (s : S) (o : Option ℕ) (m : ℕ) → k + suc m ≡ n
      → PicksMaxByKey steps g nat_cmp s f o → YieldsList steps (λ x. x) s (range_with_len k (suc m))
      → (unwrap_or o k < n) × (unwrap_or o k ≡ pivot_of n a k)
  unfolding pivot_of
  pivots_row {steps = steps} s None m e h y = absurd (omega (ap length (items [] h y), arith))
  pivots_row {steps = steps} s (Some row) m e h y =
      let rest = items (h.0 ∷ h.1) h.5 y in
      let first : h.0 ≡ k = ap (λ (l : List ℕ). get_or l 0 k) rest in
      let called = keys h.0 h.2 h.3 h.6 in
      walked m (k + 1) h.2 k h.4 row (omega (arith, e)) (called.0 ∙ ap (size_of a k) first) (omega (arith, e))
      (ran_none (omega (arith, e)))
      (subst (λ (u : F). FoldsTo {P = (F × ℕ) × ℕ} turn ((u, h.2), k) (range_with_len (k + 1) m) (h.4, row)) called.1
      (subst (λ (l : List ℕ). FoldsTo {P = (F × ℕ) × ℕ} turn ((h.3, h.2), get_or l 0 k) (drop 1 l) (h.4, row)) rest h.7))
