-- Laws of an array of zeros, of which a loop fills the first words. Assumes nothing.
use mathlib.Core.Path.{◌≡◌, sym, ap, ◌∙◌}
use mathlib.Core.List.{List, ◌++◌}
use Prim.Native.Nat.{ℕ, suc, ◌+◌, ◌-◌, ◌≤◌, ◌<◌}
use native.Mathlib.Numerals.{add-one}
use native.Mathlib.Omega.{arith}
use lib.ListN.{length, get_or, take, drop, set, replicate, length-set, get_or-append}
use lib.Seq.{set-append_left}
use borrow.Rule.Slice.PartMut.{post_of, mid_len, put_same}
use lib.Ieee.{Float}
use Rattle.std.proofs.lemmas.List.{append-nil, take-replicate, drop-replicate}
use Rattle.definition.specs.Number.{zero64}
use Rattle.definition.specs.Vector.{tab, fold_to}
use Rattle.compact.proofs.Laws.{set_pad}

-- the first n words at turn i: f of each index before it, and zeros
pub record Filled (n : ℕ) (f : ℕ → Float) (b : List Float) (i : ℕ) : Type 0 where
  pub upto : i ≤ n
  pub is : b ≡ tab i f ++ replicate (n - i) zero64

pub filled_more : {n : ℕ} {f : ℕ → Float} {b : List Float} {i : ℕ} {v : Float} → Filled n f b i → i < n → v ≡ f i → Filled n f (set b i v) (i + 1)
filled_more {n} {f} {b} {i} r h e =
    let q : n - i ≡ suc (n - suc i) = omega arith in
    record { upto = omega arith; is = rw (add-one, r.is, q, e) (set_pad i (n - suc i) f zero64) }

module _ (most : ℕ) {n : ℕ} {f : ℕ → Float} (zeros : List Float) (e : zeros ≡ replicate most zero64) (h : n ≤ most) where
  pub filled_none : Filled n f (take (n - 0) (drop 0 zeros)) 0
  unfolding tab
  filled_none =
      let whole : n - 0 ≡ n = omega arith in
      record { upto = omega arith; is = rw (whole, e) (take-replicate n most zero64 h) }

  pub filled_done : {b : List Float} {i : ℕ} → Filled n f b i → n ≤ i → b ++ post_of 0 (n - 0) zeros ≡ tab n f ++ replicate (most - n) zero64
  filled_done {b} {i} r l =
      let whole : n - 0 ≡ n = omega arith in
      let last : i ≡ n = omega (arith, r.upto) in
      let none : n - n ≡ 0 = omega arith in
      let front : b ≡ tab n f = rw (last, none) at r.is ∙ append-nil (tab n f) in
      let rest : post_of 0 (n - 0) zeros ≡ replicate (most - n) zero64 = rw (whole, e) (drop-replicate n most zero64) in
      λ k. front k ++ rest k

-- ---- a list a, of which the first n items are lent to a loop that changes each: b is what they are at turn j

pub record Changed {A : Type 0} (d : A) (n : ℕ) (f : ℕ → A → A) (a b : List A) (j : ℕ) : Type 0 where
  pub upto : j ≤ n
  pub long : length b ≡ n
  pub is : b ++ post_of 0 (n - 0) a ≡ fold_to j (λ k c. set c k (f k (get_or c k d))) a

pub changed_none : {A : Type 0} {d : A} {n : ℕ} {f : ℕ → A → A} {a : List A} → n ≤ length a → Changed d n f a (take (n - 0) (drop 0 a)) 0
unfolding fold_to
changed_none {n = n} {a = a} h = record {
  upto = omega arith;
  long = mid_len 0 n a h ∙ (let e : n - 0 ≡ n = omega arith in e);
  is = put_same 0 (n - 0) a;
}

pub changed_more : {A : Type 0} {d : A} {n : ℕ} {f : ℕ → A → A} {a b : List A} {j : ℕ} {v : A}
    → Changed d n f a b j → j < n → v ≡ f j (get_or b j d) → Changed d n f a (set b j v) (j + 1)
unfolding fold_to
changed_more {d = d} {n = n} {f = f} {a = a} {b = b} {j = j} {v = v} r l e =
    let rest = post_of 0 (n - 0) a in
    let m : j < length b = omega (arith, r.long) in
    let step : set b j v ++ rest ≡ set (b ++ rest) j (f j (get_or (b ++ rest) j d)) =
    sym (set-append_left b rest j v m) ∙ ap (set (b ++ rest) j) (e ∙ ap (f j) (sym (get_or-append b rest d j m))) in
    record { upto = omega arith; long = length-set b j v ∙ r.long; is = rw add-one (step ∙ ap (λ c. set c j (f j (get_or c j d))) r.is) }

pub changed_done : {A : Type 0} {d : A} {n : ℕ} {f : ℕ → A → A} {a b : List A} {j : ℕ}
    → Changed d n f a b j → n ≤ j → b ++ post_of 0 (n - 0) a ≡ fold_to n (λ k c. set c k (f k (get_or c k d))) a
changed_done {n = n} {j = j} r l = let e : j ≡ n = omega (arith, r.upto) in rw e at r.is
