-- Laws of the break list: the insertion from behind is the definition's, what the definition finds is in order and of its coordinates, and a break
-- read off the array. Assumes nothing.
use mathlib.Core.Path.{◌≡◌, refl, sym, ap, ◌∙◌}
use mathlib.Core.Bool.{Bool, true, false, not, cond}
use mathlib.Core.List.{List, [], ◌∷◌, ◌++◌, map}
use Prim.Native.Nat.{ℕ, zero, suc, ◌+◌, ◌-◌, ◌≤◌, ◌<◌}
use native.Mathlib.Nat.{le_trans, le_of_lt, lt_trans, le_of_suc-le-suc}
use native.Mathlib.Numerals.{add-one}
use native.Mathlib.Omega.{arith}
use borrow.Author.Tests.{leb-true, leb-false, le-leb, ltb-true, ltb-false}
use lib.Dec.{ltb}
use lib.ListN.{length, get_or, take, set, length-set, length-take, length-map, get_or-map}
use lib.Seq.{take-suc, take-suc-set, take-set-le, get_or-set_same, get_or-set_other, ext_get_or, get_or-take, length-take-le}
use Rattle.std.specs.List.{suffix_len}
use Rattle.std.proofs.lemmas.List.Sums.{suffix_len-take_yes, suffix_len-take_no, suffix_len-le-length}
use lib.Ieee.{Float}
use lib.Ieee.Scale.{finite}
use Rattle.definition.specs.Number.{total_key, total_le}
use Rattle.definition.specs.Vector.{fold_to, word}
use Rattle.definition.specs.Problem.{Bounds, most_coordinates}
use Rattle.definition.specs.Geometry.{Break, no_break, inserted, break_time, breaks_of}
use Rattle.area.specs.Area.{Vecs, bounds_of, view, words_at, vector_x, vector_g}
use Rattle.area.proofs.Laws.{word-view}
use Rattle.cauchy.specs.declared.BreakTime.{BreakTime}
use Rattle.cauchy.specs.declared.Breaks.{Breaks}
use Rattle.cauchy.specs.State.{break_of, no_break_time, sift, break_list, Rising, Ordered, Inserted, Kept, Found, break_time_in}

-- by a test's two values
by_test : (P : Bool → Type 0) (t : Bool) → (t ≡ true → P true) → (t ≡ false → P false) → P t
by_test P true f g = f refl
by_test P false f g = g refl

-- the words at i, read off the vectors
pub words-view : (a : List Float) (n i : ℕ) → i < n → words_at a n i ≡ (λ (q : ℕ). word (view a n q) i)
words-view a n i h = λ k q. word-view a n q i h k

-- ---- the definition's insertion

rising_inserted : (b : Break) (m : ℕ) (bs : List Break) → m ≤ total_key b.time → Rising m bs → Rising m (inserted b bs)
unfolding Rising inserted
rising_inserted b m [] h r = (h, tt)
rising_inserted b m (c ∷ cs) h r =
    by_test (λ (t : Bool). Rising m (cond t (c ∷ inserted b cs) (b ∷ c ∷ cs))) (total_le c.time b.time)
    (λ e. (r.0, rising_inserted b (total_key c.time) cs (leb-true _ _ e) r.1))
    (λ e. (h, (le_of_lt (leb-false _ _ e), r.1)))

-- without the last, and up to the last
rising_front : (m : ℕ) (bs : List Break) (e : Break) → Rising m (bs ++ (e ∷ [])) → Rising m bs
unfolding Rising
rising_front m [] e r = tt
rising_front m (b ∷ bs) e r = (r.0, rising_front (total_key b.time) bs e r.1)

rising_last : (m : ℕ) (bs : List Break) (e : Break) → Rising m (bs ++ (e ∷ [])) → m ≤ total_key e.time
unfolding Rising
rising_last m [] e r = r.0
rising_last m (b ∷ bs) e r = le_trans r.0 (rising_last (total_key b.time) bs e r.1)

-- behind a last that is not later, and before one that is
inserted_behind : (m : ℕ) (bs : List Break) (e t : Break) → Rising m (bs ++ (e ∷ [])) → total_le e.time t.time ≡ true
    → inserted t (bs ++ (e ∷ [])) ≡ (bs ++ (e ∷ [])) ++ (t ∷ [])
unfolding Rising inserted
inserted_behind m [] e t r h = rw h
inserted_behind m (b ∷ bs) e t r h =
    let q : total_le b.time t.time ≡ true = le-leb _ _ (le_trans (rising_last (total_key b.time) bs e r.1) (leb-true _ _ h)) in
    rw q (ap (λ (l : List Break). b ∷ l) (inserted_behind (total_key b.time) bs e t r.1 h))

inserted_before : (bs : List Break) (e t : Break) → total_le e.time t.time ≡ false → inserted t (bs ++ (e ∷ [])) ≡ inserted t bs ++ (e ∷ [])
unfolding inserted
inserted_before [] e t h = rw h
inserted_before (b ∷ bs) e t h =
    by_test (λ (y : Bool). cond y (b ∷ inserted t (bs ++ (e ∷ []))) (t ∷ b ∷ (bs ++ (e ∷ []))) ≡ cond y (b ∷ inserted t bs) (t ∷ b ∷ bs) ++ (e ∷ []))
    (total_le b.time t.time)
    (λ y. ap (λ (l : List Break). b ∷ l) (inserted_before bs e t h))
    (λ y. refl)

-- ---- the insertion from behind

-- the list with its break before k moved up
abbrev moved_up : ℕ → List BreakTime → List BreakTime
moved_up k bs = set bs (suc k) (get_or bs k no_break_time)

by_sift : (P : List BreakTime → Type 0) (k : ℕ) (bs : List BreakTime) (t : BreakTime)
    → (total_le (get_or bs k no_break_time).time t.time ≡ true → P (set bs (suc k) t))
    → (total_le (get_or bs k no_break_time).time t.time ≡ false → P (sift k (moved_up k bs) t))
    → P (sift (suc k) bs t)
unfolding sift
by_sift P k bs t f g = by_test (λ (y : Bool). P (cond y (set bs (suc k) t) (sift k (moved_up k bs) t))) (total_le (get_or bs k no_break_time).time t.time) f g

pub sift_length : (k : ℕ) (bs : List BreakTime) (t : BreakTime) → length (sift k bs t) ≡ length bs
unfolding sift
sift_length zero bs t = length-set bs 0 t
sift_length (suc k) bs t =
    by_sift (λ (l : List BreakTime). length l ≡ length bs) k bs t
    (λ e. length-set bs (suc k) t)
    (λ e. sift_length k (moved_up k bs) t ∙ length-set bs (suc k) (get_or bs k no_break_time))

sift_above : (k : ℕ) (bs : List BreakTime) (t : BreakTime) (j : ℕ) → k < j → get_or (sift k bs t) j no_break_time ≡ get_or bs j no_break_time
unfolding sift
sift_above zero bs t j h = get_or-set_other bs 0 j t no_break_time (λ e. omega arith)
sift_above (suc k) bs t j h =
    by_sift (λ (l : List BreakTime). get_or l j no_break_time ≡ get_or bs j no_break_time) k bs t
    (λ e. get_or-set_other bs (suc k) j t no_break_time (λ e. omega arith))
    (λ e. sift_above k (moved_up k bs) t j (omega arith) ∙ get_or-set_other bs (suc k) j (get_or bs k no_break_time) no_break_time (λ e. omega arith))

-- r is bs with the breaks from p to k moved up by a place
pub record MovedUp (bs r : List BreakTime) (p k : ℕ) : Type 0 where
  pub long : length r ≡ length bs
  pub below : (j : ℕ) → j < suc p → get_or r j no_break_time ≡ get_or bs j no_break_time
  pub moved : (j : ℕ) → p ≤ j → j < k → get_or r (suc j) no_break_time ≡ get_or bs j no_break_time
  pub above : (j : ℕ) → k < j → get_or r j no_break_time ≡ get_or bs j no_break_time

abbrev is_later : BreakTime → BreakTime → Bool
is_later t other = not (total_le other.time t.time)

none_moved : (bs r : List BreakTime) (p k : ℕ) → MovedUp bs r p k → p ≡ k → bs ≡ r
none_moved bs r p k m e =
    ext_get_or no_break_time bs r (sym m.long)
    (λ j l.
    by_test (λ (o : Bool). get_or bs j no_break_time ≡ get_or r j no_break_time) (ltb j (suc p))
    (λ y. sym (m.below j (ltb-true _ _ y)))
    (λ y. let h : suc p ≤ j = ltb-false _ _ y in sym (m.above j (omega arith))))

-- the first of them moved already
first_moved : (bs r : List BreakTime) (p k : ℕ) → MovedUp bs r p (suc k) → p ≤ k → suc k < length bs → MovedUp (moved_up k bs) r p k
first_moved bs r p k m h l =
    let x = get_or bs k no_break_time in
    let other : (j : ℕ) → (j ≡ suc k → ⊥) → get_or (moved_up k bs) j no_break_time ≡ get_or bs j no_break_time =
    λ j d. get_or-set_other bs (suc k) j x no_break_time d in
    record {
      long = m.long ∙ sym (length-set bs (suc k) x);
      below = λ j b. m.below j b ∙ sym (other j (λ e. omega arith));
      moved = λ j b q. m.moved j b (omega arith) ∙ sym (other j (λ e. omega arith));
      above = λ j b.
          by_test (λ (o : Bool). get_or r j no_break_time ≡ get_or (moved_up k bs) j no_break_time) (ltb j (suc (suc k)))
          (λ y.
          let e : j < suc (suc k) = ltb-true _ _ y in
          let z : j ≡ suc k = omega arith in
          rw z (m.moved k h (omega arith) ∙ sym (get_or-set_same bs (suc k) x no_break_time l)))
          (λ y.
          let e : suc (suc k) ≤ j = ltb-false _ _ y in
          m.above j (omega arith) ∙ sym (other j (λ d. omega arith)));
    }

pub later_few : (bs : List BreakTime) (k : ℕ) (t : BreakTime) {l : ℕ} → l ≡ suffix_len (is_later t) (take k bs) → l ≤ k
later_few bs k t e = omega (arith, suffix_len-le-length (is_later t) (take k bs), length-take k bs)

-- the insertion puts the break behind the last that is not later, and moves up those that are
pub sift_moves : (k p : ℕ) (bs r : List BreakTime) (t : BreakTime) → k < length bs → p + suffix_len (is_later t) (take k bs) ≡ k → MovedUp bs r p k
    → set r p t ≡ sift k bs t
unfolding sift
sift_moves zero p bs r t l e m =
    let z : p ≡ 0 = omega arith in
    rw (none_moved bs r p 0 m z, z) refl
sift_moves (suc k) p bs r t l e m =
    by_sift (λ (x : List BreakTime). set r p t ≡ x) k bs t
    (λ y.
    let d : suc k - 1 ≡ k = omega arith in
    let n : suffix_len (is_later t) (take (suc k) bs) ≡ 0 =
    suffix_len-take_no (is_later t) bs (suc k) no_break_time (omega arith) (omega arith) (rw d (ap not y)) in
    let z : p ≡ suc k = omega arith in
    rw (none_moved bs r p (suc k) m z, z) refl)
    (λ y.
    let d : suc k - 1 ≡ k = omega arith in
    let n : suffix_len (is_later t) (take (suc k) bs) ≡ 1 + suffix_len (is_later t) (take k bs) =
    rw d at (suffix_len-take_yes (is_later t) bs (suc k) no_break_time (omega arith) (omega arith) (rw d (ap not y))) in
    let x = get_or bs k no_break_time in
    let h : p ≤ k = omega arith in
    let low : take k (moved_up k bs) ≡ take k bs = take-set-le k bs (suc k) x (omega arith) in
    sift_moves k p (moved_up k bs) r t (rw (length-set bs (suc k) x) (omega arith)) (rw low (omega arith)) (first_moved bs r p k m h l))

map-append : (a b : List BreakTime) → map break_of (a ++ b) ≡ map break_of a ++ map break_of b
map-append [] b = refl
map-append (x ∷ a) b = ap (λ (l : List Break). break_of x ∷ l) (map-append a b)

-- the first k + 1 breaks
firsts : (bs : List BreakTime) (k : ℕ) → k < length bs
    → map break_of (take (suc k) bs) ≡ map break_of (take k bs) ++ (break_of (get_or bs k no_break_time) ∷ [])
firsts bs k h = ap (map break_of) (take-suc bs k no_break_time h) ∙ map-append (take k bs) (get_or bs k no_break_time ∷ [])

firsts_set : (bs : List BreakTime) (k : ℕ) (t : BreakTime) → k < length bs
    → map break_of (take (suc k) (set bs k t)) ≡ map break_of (take k bs) ++ (break_of t ∷ [])
firsts_set bs k t h = ap (map break_of) (take-suc-set bs k t h) ∙ map-append (take k bs) (t ∷ [])

sift_is : (k : ℕ) (bs : List BreakTime) (t : BreakTime) → k < length bs → Rising 0 (map break_of (take k bs))
    → map break_of (take (suc k) (sift k bs t)) ≡ inserted (break_of t) (map break_of (take k bs))
unfolding sift inserted
sift_is zero bs t h r = firsts_set bs 0 t h
sift_is (suc k) bs t h r =
    let q : k < length bs = omega arith in
    let e = break_of (get_or bs k no_break_time) in
    let s : Rising 0 (map break_of (take k bs) ++ (e ∷ [])) = rw (firsts bs k q) at r in
    by_sift (λ (l : List BreakTime). map break_of (take (suc (suc k)) l) ≡ inserted (break_of t) (map break_of (take (suc k) bs))) k bs t
    (λ y. firsts_set bs (suc k) t h ∙ rw (firsts bs k q) (sym (inserted_behind 0 (map break_of (take k bs)) e (break_of t) s y)))
    (λ y.
    let u : suc k < length (sift k (moved_up k bs) t) = rw (sift_length k (moved_up k bs) t, length-set bs (suc k) (get_or bs k no_break_time)) h in
    let same : get_or (sift k (moved_up k bs) t) (suc k) no_break_time ≡ get_or bs k no_break_time =
    sift_above k (moved_up k bs) t (suc k) (omega arith) ∙ get_or-set_same bs (suc k) (get_or bs k no_break_time) no_break_time h in
    let low : take k (moved_up k bs) ≡ take k bs = take-set-le k bs (suc k) (get_or bs k no_break_time) (omega arith) in
    firsts (sift k (moved_up k bs) t) (suc k) u
    ∙ rw same
    (ap (λ (l : List Break). l ++ (e ∷ []))
    (sift_is k (moved_up k bs) t (rw (length-set bs (suc k) (get_or bs k no_break_time)) q) (rw low (rising_front 0 (map break_of (take k bs)) e s)))
    ∙ rw (low, firsts bs k q) (sym (inserted_before (map break_of (take k bs)) e (break_of t) y))))

-- r is the list with t in its place
pub inserts : {b : Breaks} {t : BreakTime} {r : List BreakTime} → Ordered b → r ≡ sift b.count b.list t
    → Inserted b t (record { list = r; count = b.count + 1 })
inserts {b} {t} {r} o e =
    let h : b.count < length b.list = rw o.long o.room in
    record {
      long = ap length e ∙ sift_length b.count b.list t ∙ o.long;
      count = refl;
      is = rw (add-one, e) (sift_is b.count b.list t h o.rising);
    }

-- ---- what the definition finds

breaks_more : (n : ℕ) (b : Bounds) (x g : List Float) → breaks_of (suc n) b x g
    ≡ cond (finite (break_time b x g n)) (inserted (record { time = break_time b x g n; coordinate = n }) (breaks_of n b x g)) (breaks_of n b x g)
unfolding breaks_of fold_to
breaks_more n b x g = refl

rising_found : (n : ℕ) (b : Bounds) (x g : List Float) → Rising 0 (breaks_of n b x g)
unfolding breaks_of fold_to Rising
rising_found zero b x g = tt
rising_found (suc n) b x g =
    by_test (λ (t : Bool). Rising 0 (cond t (inserted (record { time = break_time b x g n; coordinate = n }) (breaks_of n b x g)) (breaks_of n b x g)))
    (finite (break_time b x g n))
    (λ e. rising_inserted _ 0 _ (omega arith) (rising_found n b x g))
    (λ e. rising_found n b x g)

Below : ℕ → List Break → Type 0
Below n [] = Unit
Below n (b ∷ bs) = (b.coordinate < n) × Below n bs

below_more : (n : ℕ) (bs : List Break) → Below n bs → Below (suc n) bs
unfolding Below
below_more n [] r = tt
below_more n (b ∷ bs) r = (lt_trans r.0 (omega arith), below_more n bs r.1)

below_inserted : (n : ℕ) (b : Break) (bs : List Break) → b.coordinate < n → Below n bs → Below n (inserted b bs)
unfolding Below inserted
below_inserted n b [] h r = (h, tt)
below_inserted n b (c ∷ cs) h r =
    by_test (λ (t : Bool). Below n (cond t (c ∷ inserted b cs) (b ∷ c ∷ cs))) (total_le c.time b.time)
    (λ e. (r.0, below_inserted n b cs h r.1))
    (λ e. (h, r))

below_found : (n : ℕ) (b : Bounds) (x g : List Float) → Below n (breaks_of n b x g)
unfolding breaks_of fold_to Below
below_found zero b x g = tt
below_found (suc n) b x g =
    by_test (λ (t : Bool). Below (suc n) (cond t (inserted (record { time = break_time b x g n; coordinate = n }) (breaks_of n b x g)) (breaks_of n b x g)))
    (finite (break_time b x g n))
    (λ e. below_inserted (suc n) _ _ (omega arith) (below_more n (breaks_of n b x g) (below_found n b x g)))
    (λ e. below_more n (breaks_of n b x g) (below_found n b x g))

below_get : (n : ℕ) (bs : List Break) (i : ℕ) → Below n bs → i < length bs → (get_or bs i no_break).coordinate < n
unfolding Below
below_get n [] i r h = absurd (omega arith)
below_get n (b ∷ bs) zero r h = r.0
below_get n (b ∷ bs) (suc i) r h = below_get n bs i r.1 (le_of_suc-le-suc h)

-- ---- a break read off the array

pub get_any : {A : Type 0} (bs : List A) (i : ℕ) (c d : A) → i < length bs → get_or bs i c ≡ get_or bs i d
get_any [] i c d h = absurd (omega arith)
get_any (b ∷ bs) zero c d h = refl
get_any (b ∷ bs) (suc i) c d h = get_any bs i c d (le_of_suc-le-suc h)

pub breaks_length : (b : Breaks) → b.count ≤ length b.list → length (break_list b) ≡ b.count
breaks_length b h = length-map (take b.count b.list) break_of ∙ length-take-le b.count b.list h

pub break_get : (b : Breaks) (i : ℕ) → i < b.count → b.count ≤ length b.list → get_or (break_list b) i no_break ≡ break_of (get_or b.list i no_break_time)
break_get b i h l =
    get_any (break_list b) i no_break (break_of no_break_time) (rw (breaks_length b l) h)
    ∙ get_or-map break_of (take b.count b.list) i no_break_time
    ∙ ap break_of (get_or-take b.count b.list i no_break_time h)

-- ---- the loop that finds them: b holds the breaks of the first i coordinates

pub record Finding (n : ℕ) (v : Vecs) (i : ℕ) (b : Breaks) : Type 0 where
  pub upto : i ≤ n
  pub long : length b.list ≡ most_coordinates
  pub count : b.count ≤ i
  pub is : break_list b ≡ breaks_of i (bounds_of v) (v vector_x) (v vector_g)

pub finding_none : {n : ℕ} {v : Vecs} {b : Breaks} → length b.list ≡ most_coordinates → b.count ≡ 0 → Finding n v 0 b
unfolding breaks_of fold_to
finding_none {b = b} l e = record { upto = omega arith; long = l; count = omega arith; is = rw e refl }

pub finding_more : {n : ℕ} (a : List Float) {i : ℕ} {b : Breaks} {t : Float} {r : Breaks}
    → Finding n (view a n) i b → i < n → t ≡ break_time_in (words_at a n i) → Kept b t i r → Finding n (view a n) (i + 1) r
finding_more {n} a {i} {b} {t} {r} f h e k =
    let v = view a n in
    let q : t ≡ break_time (bounds_of v) (v vector_x) (v vector_g) i = e ∙ ap break_time_in (words-view a n i h) in
    record {
      upto = omega arith;
      long = k.long;
      count = omega (arith, k.count, f.count);
      is = k.is ∙ rw (add-one, q, f.is) (sym (breaks_more i (bounds_of v) (v vector_x) (v vector_g)));
    }

pub finding_ordered : {n : ℕ} {v : Vecs} {i : ℕ} {b : Breaks} → Finding n v i b → i < n → n ≤ most_coordinates → Ordered b
finding_ordered {n} {v} {i} {b} f h l =
    record { long = f.long; room = omega (arith, f.count); rising = rw f.is (rising_found i (bounds_of v) (v vector_x) (v vector_g)) }

pub finding_done : {n : ℕ} {v : Vecs} {i : ℕ} {b : Breaks} → Finding n v i b → n ≤ i → n ≤ most_coordinates → Found n v b
finding_done {n} {v} {i} {b} f h l =
    let e : i ≡ n = omega (arith, f.upto) in
    let is : break_list b ≡ breaks_of n (bounds_of v) (v vector_x) (v vector_g) = rw e at f.is in
    let few : b.count ≤ length b.list = omega (arith, f.count, f.long) in
    record {
      listed = record {
        long = f.long;
        few = omega (arith, f.count);
        within = λ k m.
            rw (break_get b k m few) at
            (below_get n (break_list b) k (rw is (below_found n (bounds_of v) (v vector_x) (v vector_g))) (rw (breaks_length b few) m));
      };
      is = is;
    }
