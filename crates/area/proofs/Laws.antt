-- Laws of `specs/Area.antt`: what a loop over the index makes of the area, and what the vectors are afterwards. Assumes nothing.
use mathlib.Core.Path.{◌≡◌, refl, sym, ap, ◌∙◌}
use mathlib.Core.Bool.{Bool, true, false, cond, ◌&&◌}
use lib.Ieee.Scale.{finite}
use mathlib.Core.Logic.{◌≢◌, ◌⊎◌, inl, inr, ⊎_elim}
use mathlib.Core.List.{List, [], ◌∷◌, ◌++◌, map}
use Prim.Native.Nat.{ℕ, zero, suc, ◌+◌, ◌*◌, ◌/◌, ◌%◌, ◌≤◌, ◌<◌, min, ◌-◌}
use native.Mathlib.Nat.{le_trans, suc-mul, mul-le-mul_right, le_of_suc-le-suc, eq-or-lt_of_le}
use native.Mathlib.Numerals.{add-one}
use native.Mathlib.Omega.{arith}
use lib.Arith.{digits_div, digits_mod}
use lib.Dec.{eqb, ltb}
use Rattle.std.proofs.Common.{map-id}
use lib.ListN.{length, take, drop, set, replicate, length-set, length-take, length-drop, get_or-append}
use lib.Seq.{get_or-set_same, get_or-set_other, get_or-take, get_or-drop, ext_get_or, length-take-le, get_or-append-add, drop-set-add, take-set-lt}
use lib.Ieee.{Float, nan, neg, of_bits}
use borrow.Author.Rules.{rules}
use borrow.Author.Tests.{eqb-true, eqb-false, ne_eqb, ltb-true, ltb-false}
use Rattle.std.proofs.lemmas.Iterator.{YieldsList, items_from_drains}
use Rattle.std.specs.Bool.{⊤, MatchBool}
use Rattle.std.specs.Iterator.{Drains}
use Rattle.std.specs.List.{fold, zip, AllWithin, HoldsAt}
use borrow.Rule.Slice.PartMut.{put_mid, same_len_mid}
use Rattle.definition.specs.Number.{plus, times, neg_zero, to_float}
use Rattle.definition.proofs.Vectors.{length-tab, get_or-tab}
use Rattle.definition.specs.Vector.{tab, word, fold_to, dot, all_finite}
use Rattle.std.specs.Prelude.{Option}
use Rattle.area.specs.Area.{fill_of, part, fill, view, upd, Vecs, rowwise, fold_rows, put_word, vector_x0, first_free, ScratchOnly, Saved}

-- ---- parts and tables

word-part : (a : List Float) (k n i : ℕ) → i < n → word (part a k n) i ≡ word a (k + i)
unfolding part
word-part a k n i h = rw (get_or-take, get_or-drop)

length_part : (a : List Float) (k n : ℕ) → length (part a k n) ≡ min n (length a - k)
unfolding part
length_part a k n = simp (length-take, length-drop)

tab-word : (n : ℕ) (v : List Float) → length v ≡ n → tab n (word v) ≡ v
tab-word n v e =
    ext_get_or nan (tab n (word v)) v (length-tab n (word v) ∙ sym e) (λ k l. get_or-tab n (word v) k nan (omega (arith, length-tab n (word v))))

-- ---- fills

length-fill : (a : List Float) (at n : ℕ) (f : ℕ → Float) → length (fill a at n f) ≡ length a
unfolding fill
length-fill a at zero f = refl
length-fill a at (suc n) f = length-set (fill a at n f) (at + n) (f n) ∙ length-fill a at n f

word-fill_other : (a : List Float) (at n : ℕ) (f : ℕ → Float) (k : ℕ) → ((j : ℕ) → j < n → k ≢ at + j) → word (fill a at n f) k ≡ word a k
unfolding fill
word-fill_other a at zero f k h = refl
word-fill_other a at (suc n) f k h =
    get_or-set_other (fill a at n f) (at + n) k (f n) nan (h n (omega arith)) ∙ word-fill_other a at n f k (λ j l. h j (omega arith))

word-fill_same : (a : List Float) (at n : ℕ) (f : ℕ → Float) (i : ℕ) → i < n → at + n ≤ length a → word (fill a at n f) (at + i) ≡ f i
unfolding fill
word-fill_same a at zero f i h l = absurd (omega arith)
word-fill_same a at (suc n) f i h l =
    ⊎_elim
    (λ (e : i ≡ n). rw e (get_or-set_same (fill a at n f) (at + n) (f n) nan (rw (length-fill a at n f) (omega arith))))
    (λ (q : i < n). get_or-set_other (fill a at n f) (at + n) (at + i) (f n) nan (λ e. omega arith) ∙ word-fill_same a at n f i q (omega arith))
    (eq-or-lt_of_le (le_of_suc-le-suc h))

fill_more : (a b : List Float) (at i : ℕ) (f : ℕ → Float) (v : Float) → b ≡ fill a at i f → v ≡ f i → set b (at + i) v ≡ fill a at (i + 1) f
unfolding fill
fill_more a b at i f v e q = rw (add-one, e, q)

-- ---- vectors

-- an offset is that of one word of one vector
same_word : (p q n i j : ℕ) → i < n → j < n → q * n + i ≡ p * n + j → i ≡ j
same_word p q n i j h l e = sym (digits_mod q h) ∙ ap (λ (k : ℕ). k % n) e ∙ digits_mod p l

same_vec : (p q n i j : ℕ) → i < n → j < n → q * n + i ≡ p * n + j → q ≡ p
same_vec p q n i j h l e = sym (digits_div q h) ∙ ap (λ (k : ℕ). k / n) e ∙ digits_div p l

-- any of K vectors has room where all K have
pub room : (k K n l : ℕ) → k < K → K * n ≤ l → k * n + n ≤ l
room k K n l h m = le_trans (rw suc-mul at (mul-le-mul_right n h)) m

pub length-view : (a : List Float) (n q : ℕ) → q * n + n ≤ length a → length (view a n q) ≡ n
unfolding view
length-view a n q l = length_part a (q * n) n ∙ omega arith

pub word-view : (a : List Float) (n q i : ℕ) → i < n → word a (q * n + i) ≡ word (view a n q) i
unfolding view
word-view a n q i h = sym (word-part a (q * n) n i h)

pub upd_other : (s : Vecs) (p q : ℕ) (v : List Float) → (q ≡ p → ⊥) → upd s p v q ≡ s q
upd_other s p q v h = rw (ne_eqb q p h)

-- while a loop fills vector p, in turn i, word i of any vector is as it was
word_filling : (a b : List Float) (p n i : ℕ) (f : ℕ → Float) (q : ℕ) → b ≡ fill a (p * n) i f → i < n → word b (q * n + i) ≡ word (view a n q) i
word_filling a b p n i f q e h =
    ap (λ (l : List Float). word l (q * n + i)) e
    ∙ word-fill_other a (p * n) i f (q * n + i) (λ j l d. let s : i ≡ j = same_word p q n i j h (omega arith) d in omega arith)
    ∙ word-view a n q i h

-- vector p filled: that vector is the table, and each other as it was
view-fill_at : (a : List Float) (p n : ℕ) (f : ℕ → Float) → p * n + n ≤ length a → (q : ℕ) (t : Bool) → eqb q p ≡ t
    → part (fill a (p * n) n f) (q * n) n ≡ cond t (tab n f) (part a (q * n) n)
view-fill_at a p n f l q true e =
    let s : q ≡ p = eqb-true q p e in
    rw s
    (ext_get_or nan (part (fill a (p * n) n f) (p * n) n) (tab n f) (simp (length_part, length-fill, length-tab) (omega arith))
    (λ i h.
    let g : i < n = omega (arith, length_part (fill a (p * n) n f) (p * n) n) in
    word-part _ _ _ _ g ∙ word-fill_same a (p * n) n f i g l ∙ sym (get_or-tab n f i nan g)))
view-fill_at a p n f l q false e =
    ext_get_or nan (part (fill a (p * n) n f) (q * n) n) (part a (q * n) n) (simp (length_part, length-fill))
    (λ i h.
    let g : i < n = omega (arith, length_part (fill a (p * n) n f) (q * n) n) in
    word-part _ _ _ _ g
    ∙ word-fill_other a (p * n) n f (q * n + i) (λ j m d. eqb-false q p e (same_vec p q n i j g m d))
    ∙ sym (word-part a (q * n) n i g))

view-fill : (a : List Float) (p n : ℕ) (f : ℕ → Float) → p * n + n ≤ length a → view (fill a (p * n) n f) n ≡ upd (view a n) p (tab n f)
unfolding view
view-fill a p n f l = λ k q. view-fill_at a p n f l q (eqb q p) refl k

-- ---- a loop that makes vector p of the area a word by word: b is the area at turn i

abbrev rows : List Float → ℕ → (ℕ → (ℕ → Float) → Float) → ℕ → Float
rows a n g i = g i (λ (q : ℕ). word (view a n q) i)

pub record Row (a : List Float) (n p : ℕ) (g : ℕ → (ℕ → Float) → Float) (b : List Float) (i : ℕ) : Type 0 where
  pub room : p * n + n ≤ length a
  pub upto : i ≤ n
  pub long : length b ≡ length a
  pub is : b ≡ fill a (p * n) i (rows a n g)

pub row_none : {a : List Float} {n p : ℕ} {g : ℕ → (ℕ → Float) → Float} → p * n + n ≤ length a → Row a n p g a 0
unfolding fill
row_none l = record { room = l; upto = omega arith; long = refl; is = refl }

pub row_more : {a : List Float} {n p : ℕ} {g : ℕ → (ℕ → Float) → Float} {b : List Float} {i : ℕ} {v : Float}
    → Row a n p g b i → i < n → v ≡ g i (λ (q : ℕ). word b (q * n + i)) → Row a n p g (set b (p * n + i) v) (i + 1)
row_more {a} {n} {p} {g} {b} {i} {v} r h e = record {
  room = r.room;
  upto = omega arith;
  long = simp length-set r.long;
  is = fill_more a b (p * n) i (rows a n g) v r.is (e ∙ (λ k. g i (λ (q : ℕ). word_filling a b p n i (rows a n g) q r.is h k)));
}

pub row_done : {a : List Float} {n p : ℕ} {g : ℕ → (ℕ → Float) → Float} {b : List Float} {i : ℕ}
    → Row a n p g b i → n ≤ i → view b n ≡ rowwise n p g (view a n)
unfolding rowwise
row_done {a} {n} {p} {g} {b} {i} r h =
    let e : i ≡ n = omega arith in
    let q : b ≡ fill a (p * n) n (rows a n g) = rw e at r.is in
    rw q (view-fill a p n (rows a n g) r.room)

-- a vector whose words are those of a list
pub rowwise_stored : (s : Vecs) (n p : ℕ) (v : List Float) → length v ≡ n → rowwise n p (λ i w. word v i) s ≡ upd s p v
unfolding rowwise
rowwise_stored s n p v e = ap (upd s p) (tab-word n v e)

-- a vector whose words are those of vector q
pub rowwise_copies : (s : Vecs) (n p q : ℕ) → length (s q) ≡ n → rowwise n p (λ i w. w q) s ≡ upd s p (s q)
unfolding rowwise
rowwise_copies s n p q e = ap (upd s p) (tab-word n (s q) e)

-- ---- a loop over the index alone: s is what z has become at turn i

pub record Looped {A : Type 0} (n : ℕ) (step : ℕ → A → A) (z s : A) (i : ℕ) : Type 0 where
  pub upto : i ≤ n
  pub is : s ≡ fold_to i step z

pub looped_none : {A : Type 0} {n : ℕ} {step : ℕ → A → A} {z : A} → Looped n step z z 0
unfolding fold_to
looped_none = record { upto = omega arith; is = refl }

pub looped_more : {A : Type 0} {n : ℕ} {step : ℕ → A → A} {z s t : A} {i : ℕ} → Looped n step z s i → i < n → t ≡ step i s → Looped n step z t (i + 1)
unfolding fold_to
looped_more {step = step} {i = i} r h e = record { upto = omega arith; is = rw add-one (e ∙ ap (step i) r.is) }

pub looped_done : {A : Type 0} {n : ℕ} {step : ℕ → A → A} {z s : A} {i : ℕ} → Looped n step z s i → n ≤ i → s ≡ fold_to n step z
looped_done {n = n} {i = i} r h = let e : i ≡ n = omega arith in rw e at r.is

-- what no step changes stays to the end
pub looped_stays : {A : Type 0} {n : ℕ} {step : ℕ → A → A} {z s : A} {i : ℕ} → ((k : ℕ) → step k s ≡ s) → Looped n step z s i → s ≡ fold_to n step z
unfolding fold_to
looped_stays {n = n} {step = step} {z = z} {s = s} {i = i} same r = go n r.upto
  where
    go : (m : ℕ) → i ≤ m → s ≡ fold_to m step z
    go zero h = let e : i ≡ 0 = omega arith in rw e at r.is
    go (suc m) h =
        ⊎_elim
        (λ (e : i ≡ suc m). rw e at r.is)
        (λ (q : i < suc m). sym (same m) ∙ ap (step m) (go m (le_of_suc-le-suc q)))
        (eq-or-lt_of_le h)

-- ---- a loop that folds the vectors' words: m is what z has become at turn i

pub record Folded {A : Type 0} (a : List Float) (n : ℕ) (z : A) (h : ℕ → (ℕ → Float) → A → A) (m : A) (i : ℕ) : Type 0 where
  pub upto : i ≤ n
  pub is : m ≡ fold_rows z h i (view a n)

pub fold_none : {A : Type 0} {a : List Float} {n : ℕ} {z : A} {h : ℕ → (ℕ → Float) → A → A} → Folded a n z h z 0
unfolding fold_rows fold_to
fold_none = record { upto = omega arith; is = refl }

pub fold_more : {A : Type 0} {a : List Float} {n : ℕ} {z : A} {h : ℕ → (ℕ → Float) → A → A} {m v : A} {i : ℕ}
    → Folded a n z h m i → i < n → v ≡ h i (λ (q : ℕ). word a (q * n + i)) m → Folded a n z h v (i + 1)
unfolding fold_rows fold_to
fold_more {a = a} {n = n} {h = h} {i = i} r l e = record {
  upto = omega arith;
  is = rw add-one (e ∙ (λ k. h i (λ (q : ℕ). word-view a n q i l k) (r.is k)));
}

pub fold_done : {A : Type 0} {a : List Float} {n : ℕ} {z : A} {h : ℕ → (ℕ → Float) → A → A} {m : A} {i : ℕ}
    → Folded a n z h m i → n ≤ i → m ≡ fold_rows z h n (view a n)
fold_done {n = n} {i = i} r l = let e : i ≡ n = omega arith in rw e at r.is

-- ---- a vector that is lent: `&area[k..e]` with k = p * n and e = k + n, and what comes back from `&mut area[k..e]`

pub part_lent : (a : List Float) (p n : ℕ) → take (p * n + n - p * n) (drop (p * n) a) ≡ view a n p
unfolding view part
part_lent a p n = let e : p * n + n - p * n ≡ n = omega arith in rw e

lt_or_ge : (k m : ℕ) → (k < m) ⊎ (m ≤ k)
lt_or_ge k m = side (ltb k m) refl
  where
    side : (t : Bool) → ltb k m ≡ t → (k < m) ⊎ (m ≤ k)
    side true e = inl (ltb-true k m e)
    side false e = inr (ltb-false k m e)

word-put_low : (a v : List Float) (at n k : ℕ) → at ≤ length a → k < at → word (put_mid at n a v) k ≡ word a k
word-put_low a v at n k l h =
    get_or-append (take at a) (v ++ drop n (drop at a)) nan k (rw (length-take-le at a l) h) ∙ get_or-take at a k nan h

word-put_from : (a v : List Float) (at n j : ℕ) → at ≤ length a → word (put_mid at n a v) (at + j) ≡ word (v ++ drop n (drop at a)) j
word-put_from a v at n j l =
    ap (λ (m : ℕ). word (put_mid at n a v) (m + j)) (sym (length-take-le at a l)) ∙ get_or-append-add (take at a) (v ++ drop n (drop at a)) j nan

word-put : (a v : List Float) (at n : ℕ) → at + n ≤ length a → length v ≡ n → (k : ℕ) → word (put_mid at n a v) k ≡ word (fill a at n (word v)) k
word-put a v at n l e k =
    ⊎_elim
    (λ (h : k < at). word-put_low a v at n k (omega arith) h ∙ sym (word-fill_other a at n (word v) k (λ j m d. omega arith)))
    (λ (h : at ≤ k).
    let q : k ≡ at + (k - at) = omega arith in
    rw q
    (word-put_from a v at n (k - at) (omega arith)
    ∙ ⊎_elim
    (λ (m : k - at < n). get_or-append v (drop n (drop at a)) nan (k - at) (rw e m) ∙ sym (word-fill_same a at n (word v) (k - at) m l))
    (λ (m : n ≤ k - at).
    let z : k - at ≡ length v + (k - at - n) = omega arith in
    ap (λ (y : ℕ). word (v ++ drop n (drop at a)) y) z
    ∙ get_or-append-add v (drop n (drop at a)) (k - at - n) nan
    ∙ get_or-drop n (drop at a) (k - at - n) nan
    ∙ get_or-drop at a (n + (k - at - n)) nan
    ∙ (let y : at + (n + (k - at - n)) ≡ at + (k - at) = omega arith in ap (word a) y)
    ∙ sym (word-fill_other a at n (word v) (at + (k - at)) (λ j o d. omega arith)))
    (lt_or_ge (k - at) n)))
    (lt_or_ge k at)

put_fill : (a v : List Float) (at n : ℕ) → at + n ≤ length a → length v ≡ n → put_mid at n a v ≡ fill a at n (word v)
put_fill a v at n l e =
    ext_get_or nan (put_mid at n a v) (fill a at n (word v))
    (same_len_mid at n a v (e ∙ simp (length-take, length-drop) (omega arith)) ∙ sym (length-fill a at n (word v)))
    (λ k h. word-put a v at n l e k)

pub put_lent : (a v : List Float) (p n : ℕ) → p * n + n ≤ length a → length v ≡ n
    → view (put_mid (p * n) (p * n + n - p * n) a v) n ≡ upd (view a n) p v
put_lent a v p n l e =
    let z : p * n + n - p * n ≡ n = omega arith in
    rw (z, put_fill a v (p * n) n l e) (view-fill a p n (word v) l ∙ ap (upd (view a n) p) (tab-word n v e))

replicate-tab : (n : ℕ) (v : Float) → replicate n v ≡ tab n (λ (i : ℕ). v)
unfolding tab
replicate-tab zero v = refl
replicate-tab (suc n) v = ap (λ (l : List Float). v ∷ l) (replicate-tab n v)

pub put_filled : (a b : List Float) (p n : ℕ) (v : Float) → p * n + n ≤ length a
    → b ≡ replicate (length (take (p * n + n - p * n) (drop (p * n) a))) v → view (put_mid (p * n) (p * n + n - p * n) a b) n ≡ fill_of n p v (view a n)
unfolding fill_of rowwise
put_filled a b p n v l e =
    let z : b ≡ tab n (λ (i : ℕ). v) = e ∙ rw (part_lent, length-view a n p l) (replicate-tab n v) in
    rw (← z) (put_lent a b p n l (ap length z ∙ length-tab n (λ (i : ℕ). v)))

-- ---- two vectors lent, folded place by place

pub fold_first : {A : Type 0} (n : ℕ) (step : ℕ → A → A) (z : A) → fold_to (suc n) step z ≡ fold_to n (λ (i : ℕ). step (suc i)) (step 0 z)
unfolding fold_to
fold_first zero step z = refl
fold_first (suc n) step z = ap (step (suc n)) (fold_first n step z)

fold_zip : (xs ys : List Float) (z : Float) → length ys ≡ length xs
    → fold plus z (map (λ (p : Float × Float). times p.0 p.1) (zip xs ys)) ≡ fold_to (length xs) (λ i s. plus s (times (word xs i) (word ys i))) z
unfolding fold_to
fold_zip [] [] z e = refl
fold_zip [] (y ∷ ys) z e = refl
fold_zip (x ∷ xs) [] z e = absurd (omega arith)
fold_zip (x ∷ xs) (y ∷ ys) z e =
    fold_zip xs ys (plus z (times x y)) (omega arith) ∙ sym (fold_first (length xs) (λ i s. plus s (times (word (x ∷ xs) i) (word (y ∷ ys) i))) z)

pub products : (a : List Float) (n p q : ℕ) → p * n + n ≤ length a → q * n + n ≤ length a
    → fold plus neg_zero (map (λ (r : Float × Float). times r.0 r.1) (zip (view a n p) (view a n q))) ≡ dot n (view a n p) (view a n q)
products a n p q l m =
    let e : length (view a n p) ≡ n = length-view a n p l in
    rw e at (fold_zip (view a n p) (view a n q) neg_zero (length-view a n q m ∙ sym e))

-- what a chain that adds up answers, where it gives the list
pub summed : {S : Type 0} {steps : S → Option Float → S → Type 0} (r : Float) (s : S) (ys : List Float)
    → ((xs : List Float) × (⊤ → Drains steps s xs) × (r ≡ fold plus (neg (to_float 0)) xs)) → YieldsList steps (λ x. x) s ys → r ≡ fold plus neg_zero ys
unfolding neg of_bits
summed {steps = steps} r s ys h y =
    let d = h.1 tt in
    let e : map (λ (x : Float). x) h.0 ≡ ys = items_from_drains {steps = steps} {s = s} h.0 (d.1.0, d.1.1, λ u. (d.0, d.1.2)) y in
    h.2 ∙ ap (fold plus neg_zero) (sym (map-id h.0) ∙ e)

-- what `all` says of each word, as one fold
and_false : (b : Bool) → (b && false) ≡ false
and_false true = refl
and_false false = refl

fold_true : (P : ℕ → Bool) (n : ℕ) → ((k : ℕ) → k < n → P k ≡ true) → fold_to n (λ i b. b && P i) true ≡ true
unfolding fold_to
fold_true P zero h = refl
fold_true P (suc n) h = rw (fold_true P n (λ k l. h k (omega arith))) (h n (omega arith))

fold_false : (P : ℕ → Bool) (n k : ℕ) → k < n → P k ≡ false → fold_to n (λ i b. b && P i) true ≡ false
unfolding fold_to
fold_false P zero k l e = absurd (omega arith)
fold_false P (suc n) k l e =
    elim (eq-or-lt_of_le (le_of_suc-le-suc l)) [
      | inl q ↦ let f : P n ≡ false = rw q at e in rw f (and_false _)
      | inr q ↦ rw (fold_false P n k q e) refl
    ]

pub tested : (a : List Float) (p n : ℕ) (r : Bool) → p * n + n ≤ length a
    → MatchBool r (AllWithin (λ x. finite x ≡ true) (view a n p) 0 (length (view a n p)))
    ((k : ℕ) × (k < length (view a n p)) × HoldsAt (λ x. finite x ≡ false) (view a n p) k) → r ≡ all_finite n (view a n p)
tested a p n true l h = sym (fold_true (λ k. finite (word (view a n p) k)) n (λ k j. h k nan (omega arith) (rw (length-view a n p l) j)))
tested a p n false l h = sym (fold_false (λ k. finite (word (view a n p) k)) n h.0 (rw (length-view a n p l) at h.1) (h.2 nan))

-- ---- one store at word i of vector p, seen in the vectors

view-set_at : (b : List Float) (n p i : ℕ) (v : Float) → i < n → (q : ℕ) (t : Bool) → eqb q p ≡ t
    → part (set b (p * n + i) v) (q * n) n ≡ cond t (set (part b (p * n) n) i v) (part b (q * n) n)
unfolding part
view-set_at b n p i v h q true e =
    let s : q ≡ p = eqb-true q p e in
    rw (s, drop-set-add (p * n) b i v) (take-set-lt n (drop (p * n) b) i v h)
view-set_at b n p i v h q false e =
    ext_get_or nan (part (set b (p * n + i) v) (q * n) n) (part b (q * n) n) (simp (length-take, length-drop, length-set))
    (λ k l.
    let g : k < n = omega (arith, length_part (set b (p * n + i) v) (q * n) n) in
    word-part (set b (p * n + i) v) (q * n) n k g
    ∙ get_or-set_other b (p * n + i) (q * n + k) v nan (λ d. eqb-false q p e (same_vec p q n k i g h d))
    ∙ sym (word-part b (q * n) n k g))

pub view-set : (b : List Float) (n p i : ℕ) (v : Float) → i < n → view (set b (p * n + i) v) n ≡ put_word (view b n) p i v
unfolding view
view-set b n p i v h = λ k q. view-set_at b n p i v h q (eqb q p) refl k

-- ---- only the scratch vectors change

pub scratch_refl : {a : Vecs} → ScratchOnly a a
scratch_refl = record { low = λ q h. refl; free = λ q h l. refl; high = λ q h. refl }

pub scratch_trans : {a b c : Vecs} → ScratchOnly a b → ScratchOnly b c → ScratchOnly a c
scratch_trans r s = record {
  low = λ q h. s.low q h ∙ r.low q h;
  free = λ q h l. s.free q h l ∙ r.free q h l;
  high = λ q h. s.high q h ∙ r.high q h;
}

pub scratch_upd : {a b : Vecs} (p : ℕ) (v : List Float) → 8 ≤ p → p < first_free → ScratchOnly a b → ScratchOnly a (upd b p v)
scratch_upd {b = b} p v l h r = record {
  low = λ q k. upd_other b p q v (λ e. omega arith) ∙ r.low q k;
  free = λ q k m. upd_other b p q v (λ e. omega arith) ∙ r.free q k m;
  high = λ q k. upd_other b p q v (λ e. omega arith) ∙ r.high q k;
}

-- ---- the start and the free vectors stay

pub saved_refl : {a : Vecs} → Saved a a
saved_refl = record { x0 = refl; free = λ q h l. refl }

pub saved_trans : {a b c : Vecs} → Saved a b → Saved b c → Saved a c
saved_trans r s = record { x0 = s.x0 ∙ r.x0; free = λ q h l. s.free q h l ∙ r.free q h l }

-- another vector is replaced
pub saved_upd : {a b : Vecs} (p : ℕ) (v : List Float) → p < first_free → (p ≡ vector_x0 → ⊥) → Saved a b → Saved a (upd b p v)
saved_upd {b = b} p v l n r = record {
  x0 = upd_other b p vector_x0 v (λ e. n (sym e)) ∙ r.x0;
  free = λ q k m. upd_other b p q v (λ e. omega arith) ∙ r.free q k m;
}

pub ruleset laws = (
  row_more,
  row_done,
  looped_more,
  looped_done,
  fold_more,
  fold_done,
  scratch_refl,
  scratch_upd,
  rules,
)
