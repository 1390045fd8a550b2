-- Laws of `Each`: of one element, of parts, and of lists joined. Assumes nothing.
use Prim.Native.Nat.{ℕ, zero, suc, ◌<◌}
use native.Mathlib.Omega.{arith}
use mathlib.Core.List.{List, [], ◌∷◌, ◌++◌, map}
use lib.ListN.{length, get_or, take, drop, set}
use Rattle.definition.specs.Values.{Each}

module _ {A : Type 0} (P : A → Type 0) where
  pub each_at : (l : List A) (i : ℕ) (d : A) → Each P l → i < length l → P (get_or l i d)
  each_at [] i d h k = absurd (omega arith)
  each_at (a ∷ l) zero d h k = h.0
  each_at (a ∷ l) (suc i) d h k = each_at l i d h.1 (omega arith)

  pub each_of : (l : List A) (d : A) → ((i : ℕ) → i < length l → P (get_or l i d)) → Each P l
  each_of [] d h = tt
  each_of (a ∷ l) d h = (h 0 (omega arith), each_of l d (λ i k. h (suc i) (omega arith)))

  pub each_join : (l m : List A) → Each P l → Each P m → Each P (l ++ m)
  each_join [] m h k = k
  each_join (a ∷ l) m h k = (h.0, each_join l m h.1 k)

  pub each_split : (l m : List A) → Each P (l ++ m) → Each P l × Each P m
  each_split [] m h = (tt, h)
  each_split (a ∷ l) m h = ((h.0, (each_split l m h.1).0), (each_split l m h.1).1)

  pub each_take : (k : ℕ) (l : List A) → Each P l → Each P (take k l)
  each_take zero l h = tt
  each_take (suc k) [] h = tt
  each_take (suc k) (a ∷ l) h = (h.0, each_take k l h.1)

  pub each_drop : (k : ℕ) (l : List A) → Each P l → Each P (drop k l)
  each_drop zero l h = h
  each_drop (suc k) [] h = tt
  each_drop (suc k) (a ∷ l) h = each_drop k l h.1

  pub each_set : (l : List A) (i : ℕ) (a : A) → Each P l → P a → Each P (set l i a)
  each_set [] i a h k = tt
  each_set (b ∷ l) zero a h k = (k, h.1)
  each_set (b ∷ l) (suc i) a h k = (h.0, each_set l i a h.1 k)

pub each_so : {A : Type 0} (P Q : A → Type 0) (l : List A) → ((a : A) → P a → Q a) → Each P l → Each Q l
each_so P Q [] h k = tt
each_so P Q (a ∷ l) h k = (h a k.0, each_so P Q l h k.1)

pub each_map : {A B : Type 0} (P : A → Type 0) (Q : B → Type 0) (f : A → B) (l : List A) → ((a : A) → P a → Q (f a)) → Each P l → Each Q (map f l)
each_map P Q f [] h k = tt
each_map P Q f (a ∷ l) h k = (h a k.0, each_map P Q f l h k.1)
