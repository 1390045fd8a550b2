-- The pairs as a ring of places: one more, or one for the oldest. Assumes nothing.
use mathlib.Core.Path.{◌≡◌, refl, sym, ap, ◌∙◌}
use mathlib.Core.Bool.{Bool, true, false, cond, ◌&&◌}
use mathlib.Core.List.{List, [], ◌∷◌, ◌++◌}
use Rattle.std.specs.Prelude.{None, Some}
use Prim.Native.Nat.{ℕ, zero, suc, ◌+◌, ◌≤◌, ◌<◌}
use native.Mathlib.Numerals.{add-one}
use native.Mathlib.Omega.{arith}
use borrow.Author.Tests.{ltb-true, ltb-false, eq-eqb, ne_eqb}
use lib.Dec.{ltb}
use lib.Ieee.{Float}
use Rattle.definition.specs.Number.{over}
use Rattle.definition.specs.Vector.{tab, dot}
use Rattle.definition.specs.Compact as C
use Rattle.definition.specs.Compact.{Pair, wrap, make_room}
use Rattle.area.specs.Area.{Vecs, upd, copy_of, vector_velocity, vector_displacement, first_pair, place_slot}
use Rattle.area.proofs.Laws.{upd_other}
use Rattle.compact.specs.declared.Shape.{Shape}
use Rattle.compact.specs.State.{pair_slot, pair_at, pairs_of, compact_of, Sound, pushed_shape, accepted_of, Pushed, Updated}
use Rattle.compact.proofs.Laws.{tab-length, tab_same, by_wrap, wrap_below}

tab_last : {A : Type 0} (n : ℕ) (f : ℕ → A) → tab (suc n) f ≡ tab n f ++ (f n ∷ [])
unfolding tab
tab_last zero f = refl
tab_last (suc n) f = ap (λ l. f zero ∷ l) (tab_last n (λ (k : ℕ). f (suc k)))

-- ---- places

apart : (m o j k : ℕ) → o < m → j < k → k < j + m → k ≤ m → wrap m (o + j) ≡ wrap m (o + k) → ⊥
apart m o j k h l g q e =
    by_wrap m (o + j)
    (λ a b. by_wrap m (o + k) (λ c d. omega arith) (λ c d. omega arith))
    (λ a b. by_wrap m (o + k) (λ c d. omega arith) (λ c d. omega arith))

-- the place after the oldest's is where the ring goes on
next_place : (m o k : ℕ) → o < m → k < m → wrap m (wrap m (o + 1) + k) ≡ wrap m (o + suc k)
next_place m o k h l =
    by_wrap m (o + 1)
    (λ a b. rw b (let e : o + 1 + k ≡ o + suc k = omega arith in ap (wrap m) e))
    (λ a b.
    by_wrap m (wrap m (o + 1) + k)
    (λ c d. by_wrap m (o + suc k) (λ x y. omega arith) (λ x y. omega arith))
    (λ c d. absurd (omega arith)))

-- ---- a pair put at place b

abbrev pair_put : Vecs → ℕ → List Float → List Float → Vecs
pair_put v b s y = upd (upd v (place_slot b) s) (place_slot b + 1) y

abbrev pair_in : Vecs → ℕ → Pair
pair_in v a = record { s = v (place_slot a); y = v (place_slot a + 1) }

put_other : (v : Vecs) (a b : ℕ) (s y : List Float) → (a ≡ b → ⊥) → pair_in (pair_put v b s y) a ≡ pair_in v a
put_other v a b s y h =
    let n1 = ne_eqb (place_slot a) (place_slot b) (λ e. h (omega arith)) in
    let n2 = ne_eqb (place_slot a) (place_slot b + 1) (λ e. omega arith) in
    let n3 = ne_eqb (place_slot a + 1) (place_slot b) (λ e. omega arith) in
    let n4 = ne_eqb (place_slot a + 1) (place_slot b + 1) (λ e. h (omega arith)) in
    simp (n1, n2, n3, n4)

put_same : (v : Vecs) (b : ℕ) (s y : List Float) → pair_in (pair_put v b s y) b ≡ record { s = s; y = y }
put_same v b s y =
    let n1 = eq-eqb (place_slot b) (place_slot b) refl in
    let n2 = ne_eqb (place_slot b) (place_slot b + 1) (λ e. omega arith) in
    let n4 = eq-eqb (place_slot b + 1) (place_slot b + 1) refl in
    simp (n1, n2, n4)

low_put : (v : Vecs) (b p : ℕ) (s y : List Float) → p < first_pair → pair_put v b s y p ≡ v p
low_put v b p s y h = rw (ne_eqb p (place_slot b + 1) (λ e. omega arith), ne_eqb p (place_slot b) (λ e. omega arith))

-- ---- the newest pair

-- one more
more : (m p o : ℕ) (v : Vecs) (s y : List Float) → p < m → o < m
    → tab (p + 1) (λ (k : ℕ). pair_in (pair_put v (wrap m (o + p)) s y) (wrap m (o + k)))
    ≡ make_room m (tab p (λ (k : ℕ). pair_in v (wrap m (o + k)))) ++ (record { s = s; y = y } ∷ [])
more m p o v s y l h =
    rw (add-one p, tab_last, put_same, tab-length, ne_eqb p m (λ e. omega arith))
    (ap (λ t. t ++ (record { s = s; y = y } ∷ []))
    (tab_same p (λ (k : ℕ). pair_in (pair_put v (wrap m (o + p)) s y) (wrap m (o + k))) (λ (k : ℕ). pair_in v (wrap m (o + k)))
    (λ k q. put_other v (wrap m (o + k)) (wrap m (o + p)) s y (apart m o k p h q (omega arith) (omega arith)))))

-- one for the oldest
instead : (m o : ℕ) (v : Vecs) (s y : List Float) → o < suc m
    → tab (suc m) (λ (k : ℕ). pair_in (pair_put v (wrap (suc m) (o + suc m)) s y) (wrap (suc m) (wrap (suc m) (o + 1) + k)))
    ≡ make_room (suc m) (tab (suc m) (λ (k : ℕ). pair_in v (wrap (suc m) (o + k)))) ++ (record { s = s; y = y } ∷ [])
instead m o v s y l =
    let at = wrap (suc m) (o + suc m) in
    let f : ℕ → Pair = λ (k : ℕ). pair_in (pair_put v at s y) (wrap (suc m) (wrap (suc m) (o + 1) + k)) in
    let g : ℕ → Pair = λ (k : ℕ). pair_in v (wrap (suc m) (o + k)) in
    let newest : f m ≡ record { s = s; y = y } = ap (pair_in (pair_put v at s y)) (next_place (suc m) o m l (omega arith)) ∙ put_same v at s y in
    let others : tab m f ≡ tab m (λ (k : ℕ). g (suc k)) =
    tab_same m f (λ (k : ℕ). g (suc k))
    (λ k q.
    ap (pair_in (pair_put v at s y)) (next_place (suc m) o k l (omega arith))
    ∙ put_other v (wrap (suc m) (o + suc k)) at s y (apart (suc m) o (suc k) (suc m) l (omega arith) (omega arith) (omega arith))) in
    let room : make_room (suc m) (tab (suc m) g) ≡ tab m (λ (k : ℕ). g (suc k)) = rw (tab-length, eq-eqb (suc m) (suc m) refl) (unfold tab in refl) in
    tab_last m f ∙ (λ i. others i ++ (newest i ∷ [])) ∙ ap (λ t. t ++ (record { s = s; y = y } ∷ [])) (sym room)

full : (m p o : ℕ) (v : Vecs) (s y : List Float) → p ≡ m → o < m
    → tab p (λ (k : ℕ). pair_in (pair_put v (wrap m (o + p)) s y) (wrap m (wrap m (o + 1) + k)))
    ≡ make_room m (tab p (λ (k : ℕ). pair_in v (wrap m (o + k)))) ++ (record { s = s; y = y } ∷ [])
full zero p o v s y e l = absurd (omega arith)
full (suc m) p o v s y e l = rw e (instead m o v s y l)

push_at : (h : Shape) (v : Vecs) (s y : List Float) → h.pairs ≤ h.m → h.oldest < h.m → (t : Bool) → ltb h.pairs h.m ≡ t
    → pairs_of (pushed_shape h) (pair_put v (wrap h.m (h.oldest + h.pairs)) s y) ≡ make_room h.m (pairs_of h v) ++ (record { s = s; y = y } ∷ [])
unfolding pairs_of
push_at h v s y l o true e = rw e (more h.m h.pairs h.oldest v s y (ltb-true h.pairs h.m e) o)
push_at h v s y l o false e = rw e (full h.m h.pairs h.oldest v s y (omega (arith, ltb-false h.pairs h.m e)) o)

-- the place of the oldest after a push
oldest_at : (h : Shape) (theta : Float) (v : Vecs) → h.pairs ≤ h.m → (t : Bool) → ltb h.pairs h.m ≡ t
    → (pushed_shape h).oldest ≡ C.oldest_after h.m (compact_of h theta v)
unfolding pairs_of
oldest_at h theta v l true e = rw (e, tab-length h.pairs (pair_at h v), ne_eqb h.pairs h.m (λ q. omega (arith, ltb-true h.pairs h.m e)))
oldest_at h theta v l false e = rw (e, tab-length h.pairs (pair_at h v), eq-eqb h.pairs h.m (omega (arith, ltb-false h.pairs h.m e)))

sound_at : (h : Shape) (size : ℕ) → Sound h size → (t : Bool) → ltb h.pairs h.m ≡ t → Sound (pushed_shape h) size
sound_at h size r true e = rw e (record { few = r.few; most = omega (arith, ltb-true h.pairs h.m e); ring = r.ring; all = r.all })
sound_at h size r false e = rw e (record { few = r.few; most = r.most; ring = wrap_below h.m (h.oldest + 1) (omega (arith, r.ring)); all = r.all })

-- ---- `push` and `update`

-- the two scratch vectors copied to the place after the newest
pub pair_pushed : {h g : Shape} {size : ℕ} (k : ℕ) (a b : Vecs) → Sound h size → k ≡ pair_slot h h.pairs
    → b ≡ copy_of (k + 1) vector_displacement (copy_of k vector_velocity a) → g ≡ pushed_shape h → Pushed h a g b
pair_pushed {h} {g} k a b r e q j =
    let at = wrap h.m (h.oldest + h.pairs) in
    let same : b ≡ pair_put a at (a vector_velocity) (a vector_displacement) =
    q
    ∙ ap (λ (i : ℕ). copy_of (i + 1) vector_displacement (copy_of i vector_velocity a)) e
    ∙ ap (pair_put a at (a vector_velocity)) (upd_other a (place_slot at) vector_displacement (a vector_velocity) (λ z. omega arith)) in
    record {
      sound = λ size s. rw j (sound_at h size s (ltb h.pairs h.m) refl);
      n = rw j;
      m = rw j;
      is = λ old theta.
          rw (j, same)
          (λ i. record {
            pairs = push_at h a (a vector_velocity) (a vector_displacement) r.most r.ring (ltb h.pairs h.m) refl i;
            theta = theta;
            oldest = oldest_at h old a r.most (ltb h.pairs h.m) refl i;
          });
      kept = λ p l. (λ i. same i p) ∙ low_put a at p (a vector_velocity) (a vector_displacement) l;
    }

update_at : (n m : ℕ) (c : C.Compact) (s y : List Float) (sy yy : Float) (t : Bool) → sy ≡ dot n s y → yy ≡ dot n y y
    → (C.curved sy yy && C.usable (over yy sy)) ≡ t
    → C.update n m c s y ≡ cond t (C.pushed m c (record { s = s; y = y }) (over yy sy)) c
unfolding C.update
update_at n m c s y sy yy t p q h = rw (← p, ← q, h)

accepted_as : (t : Bool) (x y : Float) → cond t (Some x) None ≡ Some y → (t ≡ true) × (x ≡ y)
accepted_as true x y e = (refl, cc)
accepted_as false x y e = cc

refused_as : (t : Bool) (x : Float) → cond t (Some x) None ≡ None → t ≡ false
refused_as true x e = cc
refused_as false x e = refl

pub pair_taken : {h g : Shape} {old sy yy theta : Float} {a b : Vecs} → sy ≡ dot h.n (a vector_velocity) (a vector_displacement)
    → yy ≡ dot h.n (a vector_displacement) (a vector_displacement)
    → Some theta ≡ accepted_of sy yy → Pushed h a g b → Updated h old a g theta b
pair_taken {h} {g} {old} {sy} {yy} {theta} {a} {b} p q e r =
    let t = accepted_as (C.curved sy yy && C.usable (over yy sy)) (over yy sy) theta (sym e) in
    record {
      sound = r.sound;
      n = r.n;
      m = r.m;
      is =
          r.is old theta
          ∙ ap (C.pushed h.m (compact_of h old a) (record { s = a vector_velocity; y = a vector_displacement })) (sym t.1)
          ∙ sym (update_at h.n h.m (compact_of h old a) (a vector_velocity) (a vector_displacement) sy yy true p q t.0);
      kept = r.kept;
    }

pub pair_refused : {h : Shape} {old sy yy : Float} {a : Vecs} → sy ≡ dot h.n (a vector_velocity) (a vector_displacement)
    → yy ≡ dot h.n (a vector_displacement) (a vector_displacement)
    → None ≡ accepted_of sy yy → Updated h old a h old a
pair_refused {h} {old} {sy} {yy} {a} p q e =
    let t = refused_as (C.curved sy yy && C.usable (over yy sy)) (over yy sy) (sym e) in
    record {
      sound = λ size s. s;
      n = refl;
      m = refl;
      is = sym (update_at h.n h.m (compact_of h old a) (a vector_velocity) (a vector_displacement) sy yy false p q t);
      kept = λ q l. refl;
    }
