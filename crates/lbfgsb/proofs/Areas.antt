-- Two areas agree, word for word but for scratch and the mark, just where their first eight vectors and the pairs in use are equal; and the mark is one word.
-- Assumes nothing.
use Prim.Native.Nat.{ℕ, zero, suc, ◌+◌, ◌-◌, ◌*◌, ◌/◌, ◌%◌, ◌≤◌, ◌<◌}
use native.Mathlib.Omega.{arith}
use native.Mathlib.Nat.{div-add-mod', mod-lt, div-lt_iff_lt-mul, lt_of_lt_of_le, eq-or-lt_of_le}
use mathlib.Core.Path.{◌≡◌, refl, sym, ap, ◌∙◌, subst}
use mathlib.Core.Bool.{Bool, true, false, false≢true, beq, ◌||◌}
use mathlib.Core.Logic.{◌⊎◌, inl, inr, ⊎_elim}
use mathlib.Core.List.{List}
use lib.Arith.{digits_lt, digits_div}
use lib.Dec.{eqb, ltb}
use lib.ListN.{length}
use lib.Seq.{ext_get_or}
use lib.Ieee as Ieee
use lib.Ieee.{Float}
use lib.Ieee.Fits.{down_pos}
use lib.Ieee.Back.{whole_unique}
use borrow.Author.Tests.{eqb-true, ltb-true, ltb-false}
use Rattle.definition.specs.Number.{one64}
use Rattle.definition.specs.Vector.{word}
use Rattle.definition.specs.Compact.{Pair, wrap}
use Rattle.definition.specs.Values.{Binary64}
use Rattle.definition.proofs.Tests.{both_true}
use Rattle.area.specs.Area.{Vecs, view, place_slot, first_column, vectors}
use Rattle.area.proofs.Laws.{room, length-view, word-view}
use Rattle.compact.specs.State.{pair_at, Sound}
use Rattle.compact.specs.declared.Shape.{Shape}
use Rattle.compact.proofs.Laws.{by_wrap}
use Rattle.held.specs.Test.{mark_at}
use Rattle.lbfgsb.specs.Chain.{Unused, ScratchVector, Scratch}

-- ---- the ring

-- a place, and whether it is its first vector
record Half (k : ℕ) : Type 0 where
  place : ℕ
  is : (k ≡ 2 * place) ⊎ (k ≡ 2 * place + 1)

half : (k : ℕ) → Half k
half zero = record { place = 0; is = inl refl }
half (suc k) = let h = half k in go h.place h.is
  where
    go : (p : ℕ) → (k ≡ 2 * p) ⊎ (k ≡ 2 * p + 1) → Half (suc k)
    go p (inl e) = record { place = p; is = inr (omega (arith, e)) }
    go p (inr e) = record { place = p + 1; is = inl (omega (arith, e)) }

-- the pair, if there is one, that is in a place
record Turn (m oldest p : ℕ) : Type 0 where
  pair : ℕ
  few : pair < m
  is : wrap m (oldest + pair) ≡ p

turn_to : (m oldest p : ℕ) → oldest < m → p < m → Turn m oldest p
turn_to m oldest p l r = go (ltb p oldest) refl
  where
    go : (t : Bool) → ltb p oldest ≡ t → Turn m oldest p
    go false e =
        let b = ltb-false p oldest e in
        record {
          pair = p - oldest;
          few = omega (arith, b, l, r);
          is = by_wrap m (oldest + (p - oldest)) (λ x y. omega (arith, b, y)) (λ x y. omega (arith, b, r, x));
        }
    go true e =
        let b = ltb-true p oldest e in
        record {
          pair = p + m - oldest;
          few = omega (arith, b, l, r);
          is = by_wrap m (oldest + (p + m - oldest)) (λ x y. omega (arith, b, l, x)) (λ x y. omega (arith, b, l, y));
        }

wrap_apart : (m oldest j k : ℕ) → oldest < m → j < m → k < m → wrap m (oldest + j) ≡ wrap m (oldest + k) → j ≡ k
wrap_apart m oldest j k l a b e =
    by_wrap m (oldest + j)
    (λ x y. by_wrap m (oldest + k) (λ u v. omega (arith, e, y, v)) (λ u v. omega (arith, e, y, v, u, a, b, l)))
    (λ x y. by_wrap m (oldest + k) (λ u v. omega (arith, e, y, v, x, a, b, l)) (λ u v. omega (arith, e, y, v, x, u)))

-- ---- the vectors that are not scratch

-- the first eight vectors, and the two of each pair in use, oldest first
pub record InUse (h : Shape) (a b : Vecs) : Type 0 where
  pub low : (q : ℕ) → q < 8 → a q ≡ b q
  pub pairs : (k : ℕ) → k < h.pairs → pair_at h a k ≡ pair_at h b k

module _ (h : Shape) (ring : h.oldest < h.m) (most : h.pairs ≤ h.m) where
  -- none of the first eight is scratch
  low_used : (q : ℕ) → q < 8 → ScratchVector h q → ⊥
  low_used q l (ScratchVector.between e f) = omega (arith, l, e)
  low_used q l (ScratchVector.place p m u (inl e)) = omega (arith, l, e)
  low_used q l (ScratchVector.place p m u (inr e)) = omega (arith, l, e)
  low_used q l (ScratchVector.column e f) = omega (arith, l, e)

  -- nor is one of a place that a pair is in
  place_used :
      (k p q : ℕ) → k < h.pairs → wrap h.m (h.oldest + k) ≡ p → p < h.m → (q ≡ place_slot p) ⊎ (q ≡ place_slot p + 1)
      → ScratchVector h q → ⊥
  place_used k p q l e m (inl x) (ScratchVector.between u f) = omega (arith, x, f)
  place_used k p q l e m (inr x) (ScratchVector.between u f) = omega (arith, x, f)
  place_used k p q l e m (inl x) (ScratchVector.place r n u (inl y)) = u k l (e ∙ omega (arith, x, y))
  place_used k p q l e m (inl x) (ScratchVector.place r n u (inr y)) = omega (arith, x, y)
  place_used k p q l e m (inr x) (ScratchVector.place r n u (inl y)) = omega (arith, x, y)
  place_used k p q l e m (inr x) (ScratchVector.place r n u (inr y)) = u k l (e ∙ omega (arith, x, y))
  place_used k p q l e m (inl x) (ScratchVector.column u f) = omega (arith, x, u, m)
  place_used k p q l e m (inr x) (ScratchVector.column u f) = omega (arith, x, u, m)

  wrap_few : (k : ℕ) → k < h.pairs → wrap h.m (h.oldest + k) < h.m
  wrap_few k l = by_wrap h.m (h.oldest + k) (λ x y. omega (arith, x, y)) (λ x y. omega (arith, x, y, ring, most, l))

  module _ (a b : Vecs) (same : InUse h a b) where
    first_of : (k : ℕ) → k < h.pairs → (p q : ℕ) → wrap h.m (h.oldest + k) ≡ p → q ≡ place_slot p → a q ≡ b q
    first_of k l p q e f =
        let g : q ≡ place_slot (wrap h.m (h.oldest + k)) = f ∙ ap (λ (x : ℕ). place_slot x) (sym e) in
        ap a g ∙ ap (λ (x : Pair). x.s) (same.pairs k l) ∙ ap b (sym g)

    second_of : (k : ℕ) → k < h.pairs → (p q : ℕ) → wrap h.m (h.oldest + k) ≡ p → q ≡ place_slot p + 1 → a q ≡ b q
    second_of k l p q e f =
        let g : q ≡ place_slot (wrap h.m (h.oldest + k)) + 1 = f ∙ ap (λ (x : ℕ). place_slot x + 1) (sym e) in
        ap a g ∙ ap (λ (x : Pair). x.y) (same.pairs k l) ∙ ap b (sym g)

    of_place : (p q : ℕ) → p < h.m → (q ≡ place_slot p) ⊎ (q ≡ place_slot p + 1) → ScratchVector h q ⊎ (a q ≡ b q)
    of_place p q l is = let t = turn_to h.m h.oldest p ring l in go t.pair t.few t.is (ltb t.pair h.pairs) refl is
      where
        go : (k : ℕ) → k < h.m → wrap h.m (h.oldest + k) ≡ p → (t : Bool) → ltb k h.pairs ≡ t → (q ≡ place_slot p) ⊎ (q ≡ place_slot p + 1)
            → ScratchVector h q ⊎ (a q ≡ b q)
        go k f e true u (inl x) = inr (first_of k (ltb-true k h.pairs u) p q e x)
        go k f e true u (inr x) = inr (second_of k (ltb-true k h.pairs u) p q e x)
        go k f e false u x =
            let past = ltb-false k h.pairs u in
            let unused : Unused h p = λ j less one.
            let again = wrap_apart h.m h.oldest j k ring (omega (arith, less, most)) f (one ∙ sym e) in
            omega (arith, again, less, past) in
            inl (ScratchVector.place p l unused x)

    each_vector : (q : ℕ) → q < vectors h.m → ScratchVector h q ⊎ (a q ≡ b q)
    each_vector q m = go (ltb q 8) (ltb q 16) (ltb q (first_column h.m)) refl refl refl
      where
        ringed : (r : Half (q - 16)) → 16 ≤ q → q < first_column h.m → ScratchVector h q ⊎ (a q ≡ b q)
        ringed r l u = side r.is
          where
            side : (q - 16 ≡ 2 * r.place) ⊎ (q - 16 ≡ 2 * r.place + 1) → ScratchVector h q ⊎ (a q ≡ b q)
            side (inl e) = of_place r.place q (omega (arith, e, l, u)) (inl (omega (arith, e, l)))
            side (inr e) = of_place r.place q (omega (arith, e, l, u)) (inr (omega (arith, e, l)))

        go : (s t u : Bool) → ltb q 8 ≡ s → ltb q 16 ≡ t → ltb q (first_column h.m) ≡ u → ScratchVector h q ⊎ (a q ≡ b q)
        go true t u e f g = inr (same.low q (ltb-true q 8 e))
        go false true u e f g = inl (ScratchVector.between (omega (arith, ltb-false q 8 e)) (ltb-true q 16 f))
        go false false true e f g = ringed (half (q - 16)) (ltb-false q 16 f) (ltb-true q (first_column h.m) g)
        go false false false e f g = inl (ScratchVector.column (ltb-false q (first_column h.m) g) m)

-- ---- every word

-- word i of the area is scratch, or the same in both
abbrev pub Same : Shape → List Float → List Float → Type 0
Same h a b = (i : ℕ) → i < length a → (i ≡ mark_at h → ⊥) → Scratch h i ⊎ (word a i ≡ word b i)

module _ (h : Shape) (a b : List Float) (Some : 0 < h.n) (sound : Sound h (length a)) where
  pub each_word : InUse h (view a h.n) (view b h.n) → Same h a b
  each_word both i l other = go (ltb i (mark_at h)) refl
    where
      q : ℕ
      q = i / h.n

      k : ℕ
      k = i % h.n

      split : i ≡ q * h.n + k
      split = sym (div-add-mod' i h.n)

      inside : ScratchVector h q ⊎ (view a h.n q ≡ view b h.n q) → Scratch h i ⊎ (word a i ≡ word b i)
      inside (inl s) = inl (Scratch.within q k split (mod-lt i Some) s)
      inside (inr e) =
          inr
          (ap (word a) split
          ∙ word-view a h.n q k (mod-lt i Some)
          ∙ ap (λ (v : List Float). word v k) e
          ∙ sym (word-view b h.n q k (mod-lt i Some))
          ∙ ap (word b) (sym split))

      go : (t : Bool) → ltb i (mark_at h) ≡ t → Scratch h i ⊎ (word a i ≡ word b i)
      go true e =
          let few : q < vectors h.m = (div-lt_iff_lt-mul Some).1 (ltb-true i (mark_at h) e) in
          inside (each_vector h sound.ring sound.most (view a h.n) (view b h.n) both q few)
      go false e = ⊎_elim (λ one. absurd (other (sym one))) (λ past. inl (Scratch.behind past)) (eq-or-lt_of_le (ltb-false i (mark_at h) e))

  -- the other way: a vector that is not scratch is the same in both
  module _ (same : Same h a b) (long : length a ≡ length b) where
    used : (q k : ℕ) → q < vectors h.m → k < h.n → (ScratchVector h q → ⊥) → Scratch h (q * h.n + k) → ⊥
    used q k m l n (Scratch.within r j e f s) =
        let one : r ≡ q = sym (digits_div r f) ∙ ap (λ (x : ℕ). x / h.n) (sym e) ∙ digits_div q l in
        n (subst (ScratchVector h) one s)
    used q k m l n (Scratch.behind e) = let below = digits_lt m l in omega (arith, below, e)

    vector_same : (q : ℕ) → q < vectors h.m → (ScratchVector h q → ⊥) → view a h.n q ≡ view b h.n q
    vector_same q m n =
        let va = length-view a h.n q (room q (vectors h.m) h.n (length a) m sound.all) in
        let vb = length-view b h.n q (room q (vectors h.m) h.n (length b) m (subst (λ (x : ℕ). vectors h.m * h.n ≤ x) long sound.all)) in
        ext_get_or Ieee.nan (view a h.n q) (view b h.n q) (va ∙ sym vb) (λ k l. viewed k (omega (arith, l, va)))
      where
        at : (k : ℕ) → k < h.n → word a (q * h.n + k) ≡ word b (q * h.n + k)
        at k l =
            let below = digits_lt m l in
            go (same (q * h.n + k) (lt_of_lt_of_le below sound.all) (λ e. omega (arith, below, e)))
          where
            go : Scratch h (q * h.n + k) ⊎ (word a (q * h.n + k) ≡ word b (q * h.n + k)) → word a (q * h.n + k) ≡ word b (q * h.n + k)
            go (inl s) = absurd (used q k m l n s)
            go (inr e) = e

        viewed : (k : ℕ) → k < h.n → word (view a h.n q) k ≡ word (view b h.n q) k
        viewed k l = sym (word-view a h.n q k l) ∙ at k l ∙ word-view b h.n q k l

    pub in_use : InUse h (view a h.n) (view b h.n)
    in_use = record {
      low = λ q l. vector_same q (omega (arith, l)) (low_used h sound.ring sound.most q l);
      pairs = pairs;
    }
      where
        pairs : (k : ℕ) → k < h.pairs → pair_at h (view a h.n) k ≡ pair_at h (view b h.n) k
        pairs k l =
            let p = wrap h.m (h.oldest + k) in
            let few = wrap_few h sound.ring sound.most k l in
            let s = vector_same (place_slot p) (omega (arith, few)) (place_used h sound.ring sound.most k p (place_slot p) l refl few (inl refl)) in
            let y = vector_same (place_slot p + 1) (omega (arith, few)) (place_used h sound.ring sound.most k p (place_slot p + 1) l refl few (inr refl)) in
            λ i. record { s = s i; y = y i }

-- ---- the mark

positive_sign : (s : Bool) (a : ℕ) → 0 < a → beq s false || eqb a 0 ≡ true → s ≡ false
positive_sign false a l e = refl
positive_sign true a l e = let z = eqb-true a 0 e in absurd (omega (arith, l, z))

-- a float of binary64 that equals 1 is 1
one_is : (x : Float) → Binary64 x → Ieee.eq x one64 ≡ true → x ≡ one64
unfolding Ieee.eq Ieee.fits
one_is Ieee.nan p e = absurd (false≢true e)
one_is (Ieee.inf s) p e = absurd (false≢true e)
one_is (Ieee.fin s m x) p e =
    let a = m * Ieee.up x * 1 in
    let both = both_true (eqb a (1 * Ieee.down x)) (beq s false || eqb a 0) e in
    let value = eqb-true a (1 * Ieee.down x) both.0 in
    let k = down_pos x in
    let sign = positive_sign s a (omega (arith, value, k)) both.1 in
    whole_unique Ieee.binary64 (Ieee.fin s m x) one64 false 1 p tt (sign, value) (refl, refl)
