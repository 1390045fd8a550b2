-- The length and the words of a `tab`, and what a `fold_to` says of each index that it passed. Assumes nothing.
use Prim.Native.Nat.{ℕ, zero, suc, ◌<◌}
use native.Mathlib.Nat.{eq-or-lt_of_le, le_of_suc-le-suc}
use native.Mathlib.Omega.{arith}
use mathlib.Core.Path.{◌≡◌, refl, sym, ap, subst}
use mathlib.Core.Logic.{inl, inr}
use lib.ListN.{length, get_or}
use Rattle.definition.specs.Vector.{fold_to, tab}

module _ {A : Type 0} where
  pub length-tab : (n : ℕ) (f : ℕ → A) → length (tab n f) ≡ n
  unfolding tab
  length-tab zero f = refl
  length-tab (suc n) f = ap suc (length-tab n (λ (i : ℕ). f (suc i)))

  -- of `word`, and of a read with any other default
  pub get_or-tab : (n : ℕ) (f : ℕ → A) (i : ℕ) (d : A) → i < n → get_or (tab n f) i d ≡ f i
  unfolding tab
  get_or-tab zero f i d h = absurd (omega arith)
  get_or-tab (suc n) f zero d h = refl
  get_or-tab (suc n) f (suc i) d h = get_or-tab n (λ (j : ℕ). f (suc j)) i d (le_of_suc-le-suc h)

  -- Where P goes back through each step, which then shows Q of its index, P at the end shows Q of every index.
  pub fold_to_each : (P : A → Type 0) (Q : ℕ → Type 0) (step : ℕ → A → A) (s : A) → ((i : ℕ) (t : A) → P (step i t) → P t × Q i)
      → (n : ℕ) → P (fold_to n step s) → (i : ℕ) → i < n → Q i
  unfolding fold_to
  fold_to_each P Q step s back zero h i l = absurd (omega arith)
  fold_to_each P Q step s back (suc n) h i l =
      let b = back n (fold_to n step s) h in
      let rest = fold_to_each P Q step s back n b.0 i in
      elim (eq-or-lt_of_le (le_of_suc-le-suc l)) [ inl e ↦ subst Q (sym e) b.1 | inr k ↦ rest k ]
