-- Laws of tables, of vectors replaced, of arrays that a loop fills from the front, and of the pairs' places. Assumes nothing.
use mathlib.Core.Path.{◌≡◌, refl, sym, ap, ◌∙◌}
use mathlib.Core.Bool.{Bool, true, false, cond}
use mathlib.Core.List.{List, [], ◌∷◌, ◌++◌, append-nil}
use Rattle.std.specs.Prelude.{None, Some}
use Prim.Native.Nat.{ℕ, zero, suc, ◌+◌, ◌-◌, ◌*◌, ◌≤◌, ◌<◌}
use native.Mathlib.Nat.{le_of_suc-le-suc, zero-lt-suc}
use native.Mathlib.Numerals.{add-one}
use native.Mathlib.Omega.{arith}
use borrow.Author.Tests.{ltb-true, ltb-false, eqb-true, eq-eqb}
use lib.Dec.{ltb, eqb}
use lib.ListN.{length, get_or, set, take, drop, replicate, get_or-append, length-append}
use lib.Seq.{ext_get_or}
use Rattle.std.proofs.lemmas.List.{take-replicate, drop-replicate, length-replicate}
use lib.Ieee.{Float, nan}
use Rattle.definition.specs.Vector.{tab, word, dot}
use Rattle.definition.specs.Compact.{pair_of, wrap, padded}
use Rattle.area.specs.Area.{Vecs, upd, given, vectors}
use Rattle.area.proofs.Laws.{room}
use Rattle.compact.specs.declared.Shape.{Shape}
use Rattle.compact.specs.State.{pair_slot, pair_at, pairs_of, Sound, Slot}

-- ---- tables and folds

pub tab-length : {A : Type 0} (n : ℕ) (f : ℕ → A) → length (tab n f) ≡ n
unfolding tab
tab-length zero f = refl
tab-length (suc n) f = ap suc (tab-length n (λ (k : ℕ). f (suc k)))

pub tab-get : {A : Type 0} (n : ℕ) (f : ℕ → A) (i : ℕ) (d : A) → i < n → get_or (tab n f) i d ≡ f i
unfolding tab
tab-get zero f i d h = absurd (omega arith)
tab-get (suc n) f zero d h = refl
tab-get (suc n) f (suc i) d h = tab-get n (λ (i : ℕ). f (suc i)) i d (le_of_suc-le-suc h)

pub tab_same : {A : Type 0} (n : ℕ) (f g : ℕ → A) → ((k : ℕ) → k < n → f k ≡ g k) → tab n f ≡ tab n g
unfolding tab
tab_same zero f g h = refl
tab_same (suc n) f g h = λ i. h zero (zero-lt-suc n) i ∷ tab_same n (λ (k : ℕ). f (suc k)) (λ (k : ℕ). g (suc k)) (λ k l. h (suc k) (omega arith)) i

pub tab-word : (n : ℕ) (v : List Float) → length v ≡ n → tab n (word v) ≡ v
tab-word n v e =
    ext_get_or nan (tab n (word v)) v (tab-length n (word v) ∙ sym e) (λ k l. tab-get n (word v) k nan (omega (arith, tab-length n (word v))))

-- a product of two vectors that are the same as others
pub dot_same : (n : ℕ) {x : Float} {a b s y : List Float} → x ≡ dot n a b → a ≡ s → b ≡ y → x ≡ dot n s y
dot_same n e p q = e ∙ (λ i. dot n (p i) (q i))

-- ---- one vector replaced

pub upd_same : (s : Vecs) (p : ℕ) (v : List Float) → upd s p v p ≡ v
upd_same s p v = rw (eq-eqb p p refl)

later : {A : Type 0} (t : Bool) (x y z : A) → cond t y (cond t x z) ≡ cond t y z
later true x y z = refl
later false x y z = refl

pub upd_twice : (s : Vecs) (p : ℕ) (x y : List Float) → upd (upd s p x) p y ≡ upd s p y
upd_twice s p x y = λ i j. later (eqb j p) x y (s j) i

pub upd_none : (s : Vecs) (p : ℕ) (v : List Float) → s p ≡ v → s ≡ upd s p v
upd_none s p v e = λ i j. at j (eqb j p) refl i
  where
    at : (j : ℕ) (t : Bool) → eqb j p ≡ t → s j ≡ cond t v (s j)
    at j true d = ap s (eqb-true j p d) ∙ e
    at j false d = refl

pub given_is : (t : Bool) (v : List Float) → given t v ≡ cond t (Some v) None
given_is true v = refl
given_is false v = refl

-- ---- the first n places of an array of 32, filled in turn: b has i of them made

pub set_pad : {A : Type 0} (i d : ℕ) (f : ℕ → A) (z : A) → set (tab i f ++ replicate (suc d) z) i (f i) ≡ tab (suc i) f ++ replicate d z
unfolding tab
set_pad zero d f z = refl
set_pad (suc i) d f z = ap (λ l. f zero ∷ l) (set_pad i d (λ (k : ℕ). f (suc k)) z)

pub record Filling {A : Type 0} (z : A) (n : ℕ) (f : ℕ → A) (b : List A) (i : ℕ) : Type 0 where
  pub upto : i ≤ n
  pub is : b ≡ tab i f ++ replicate (n - i) z

pub filling_none : {A : Type 0} {z : A} {n : ℕ} {f : ℕ → A} → n ≤ 32 → Filling z n f (take n (replicate 32 z)) 0
unfolding tab
filling_none {z = z} {n = n} h = let q : n - 0 ≡ n = omega arith in record { upto = omega arith; is = rw q (take-replicate n 32 z h) }

pub filling_all : {A : Type 0} {z : A} {f : ℕ → A} → Filling z 32 f (replicate 32 z) 0
unfolding tab
filling_all = record { upto = omega arith; is = refl }

pub filled_count : {A : Type 0} {z : A} {n : ℕ} {f : ℕ → A} {b : List A} {i : ℕ} → Filling z n f b i → length b ≡ n
filled_count {z = z} {n = n} {f = f} {i = i} r =
    let e : i + (n - i) ≡ n = omega (arith, r.upto) in
    rw (r.is, length-append, tab-length, length-replicate) e

pub filling_below : {A : Type 0} {z : A} {n : ℕ} {f : ℕ → A} {b : List A} {i e : ℕ} → Filling z n f b i → length b ≡ e → i < e → i < n
filling_below r l h = omega (arith, filled_count r)

pub filling_more : {A : Type 0} {z : A} {n : ℕ} {f : ℕ → A} {b : List A} {i e : ℕ} {v : A} → Filling z n f b i → length b ≡ e → i < e → v ≡ f i
    → Filling z n f (set b i v) (i + 1)
filling_more {z = z} {n = n} {f = f} {i = i} r l h d =
    let below = filling_below r l h in
    let q : n - i ≡ suc (n - suc i) = omega arith in
    record {
      upto = omega arith;
      is = rw (add-one, r.is, d, q) (set_pad i (n - suc i) f z);
    }

pub filling_done : {A : Type 0} {z : A} {n : ℕ} {f : ℕ → A} {b : List A} {i e : ℕ} → Filling z n f b i → length b ≡ e → e ≤ i
    → b ++ drop n (replicate 32 z) ≡ padded z n f
unfolding padded
filling_done {z = z} {n = n} {f = f} {i = i} r l h =
    let e : i ≡ n = omega (arith, filled_count r, r.upto) in
    let q : n - n ≡ 0 = omega arith in
    rw (r.is, e, q, append-nil, drop-replicate) refl

-- and all 32 of them, with n made
pub filling_padded : {A : Type 0} {z : A} {n : ℕ} {f : ℕ → A} {b : List A} {i : ℕ} → Filling z 32 f b i → i ≡ n → b ≡ padded z n f
unfolding padded
filling_padded r e = rw e at r.is

-- an entry below the size
pub padded-get : {A : Type 0} (z : A) (n : ℕ) (f : ℕ → A) (i : ℕ) (d : A) → i < n → get_or (padded z n f) i d ≡ f i
unfolding padded
padded-get z n f i d h =
    get_or-append (tab n f) (replicate (32 - n) z) d i (omega (arith, tab-length n f)) ∙ tab-get n f i d h

-- ---- places

wrap_at : (m i : ℕ) (P : Type 0) (t : Bool) → ltb i m ≡ t → (i < m → wrap m i ≡ i → P) → (m ≤ i → wrap m i ≡ i - m → P) → P
wrap_at m i P true e f g = f (ltb-true i m e) (rw e)
wrap_at m i P false e f g = g (ltb-false i m e) (rw e)

pub by_wrap : (m i : ℕ) {P : Type 0} → (i < m → wrap m i ≡ i → P) → (m ≤ i → wrap m i ≡ i - m → P) → P
by_wrap m i {P} f g = wrap_at m i P (ltb i m) refl f g

pub wrap_below : (m i : ℕ) → i < m + m → wrap m i < m
wrap_below m i h = by_wrap m i (λ a b. omega arith) (λ a b. omega arith)

-- the place of pair k, and that of the pair after the newest
pub place_below : {h : Shape} {size : ℕ} (k w : ℕ) → Sound h size → k ≤ h.pairs → w ≡ wrap h.m (h.oldest + k) → w < h.m
place_below {h} k w s l e = rw e (wrap_below h.m (h.oldest + k) (omega (arith, s.ring, s.most)))

pub pairs_count : (h : Shape) (v : Vecs) → length (pairs_of h v) ≡ h.pairs
unfolding pairs_of
pairs_count h v = tab-length h.pairs (pair_at h v)

pub pair_at_lem : (h : Shape) (v : Vecs) (k : ℕ) → k < h.pairs → pair_of (pairs_of h v) k ≡ pair_at h v k
unfolding pairs_of
pair_at_lem h v k l = tab-get h.pairs (pair_at h v) k (record { s = []; y = [] }) l

pub slot_is : (h : Shape) (k r : ℕ) → k < h.pairs → h.pairs ≤ h.m → h.oldest < h.m → r ≡ pair_slot h k → Slot h k r
slot_is h k r l top ring e =
    let g = wrap_below h.m (h.oldest + k) (omega arith) in
    record {
      is = e;
      s = λ v. rw (pair_at_lem h v k l) (ap v e);
      y = λ v. rw (pair_at_lem h v k l) (ap (λ (j : ℕ). v (j + 1)) e);
      first = λ size s. room r (vectors h.m) h.n size (omega arith) s.all;
      second = λ size s. room (r + 1) (vectors h.m) h.n size (omega arith) s.all;
      low = omega arith;
    }

-- any vector of the area has room
pub vector_room : {h : Shape} {size : ℕ} (p : ℕ) → Sound h size → p < vectors h.m → p * h.n + h.n ≤ size
vector_room {h} {size} p r l = room p (vectors h.m) h.n size l r.all
