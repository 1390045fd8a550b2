-- Points within the box: the clipped start of an accepted setup, a trial along a finite direction, and what a probe moves. Assumes nothing.
use Prim.Native.Nat.{ℕ, zero, suc, ◌<◌}
use native.Mathlib.Omega.{arith}
use mathlib.Core.Path.{◌≡◌, refl, ap}
use mathlib.Core.Bool.{Bool, true, false, cond, ◌&&◌, false≢true}
use mathlib.Core.List.{List, [], ◌∷◌}
use Rattle.std.specs.Prelude.{Option, None, Some}
use lib.Dec.{T}
use lib.ListN.{set}
use lib.Ieee.{Float, nan, is_nan, lt, eq, le}
use lib.Ieee.Scale.{finite}
use Rattle.definition.specs.Number.{plus, minus, times, min, max, next_up, next_down, infinity, neg_infinity}
use Rattle.definition.specs.Vector.{tab, word}
use Rattle.definition.specs.Problem.{Setup, Scheme, Bounds, Terms, or_else, open_bounds, terms_of, in_box, projected_start, dimension}
use Rattle.definition.specs.Gradient.{Probes, probes, probes_between, probes_at, difference_step, plus_point, minus_point}
use Rattle.definition.specs.Search.{trial_point}
use Rattle.definition.specs.Machine.{Side, probe_point}
use Rattle.definition.specs.Replies.{Accepted}
use Rattle.definition.specs.Values.{Given}
use Rattle.definition.specs.Points.{Within, InBox, EachFinite, BoundsOrdered, asks, beyond, ProbeOf}
use Rattle.definition.proofs.Accepted.{Finite, Plain, OneSide, Sides, accepted_passed}
use Rattle.definition.proofs.Lists.{each_at}
use Rattle.definition.proofs.Order.{NotNan, le_refl, le_trans, le_of_lt, le_of_not_lt, le_left_not_nan, le_right_not_nan, clamp_within}
use Rattle.definition.proofs.Finite.{finite_not_nan, plus_not_nan, times_not_nan}
use Rattle.definition.proofs.Vectors.{get_or-tab}
use Rattle.definition.proofs.Tests.{by_test, holds, both_hold}

-- ---- the bounds and the start of an accepted setup

not_nan : (x : Float) → Plain x → NotNan x
not_nan x e = rw e tt

side_not_nan : (n : ℕ) (side : List Float) → OneSide n side → (i : ℕ) → i < n → NotNan (word side i)
side_not_nan n side h i l = not_nan (word side i) (each_at Plain side i nan h.plain (omega (arith, h.size)))

bounds_ordered : (n : ℕ) (o : Option Bounds) → Given (Sides n) o → (i : ℕ) → i < n
    → T (le (word (or_else o (open_bounds n)).lower i) (word (or_else o (open_bounds n)).upper i))
unfolding le
bounds_ordered n None h i l = rw (get_or-tab n (λ j. neg_infinity) i, get_or-tab n (λ j. infinity) i) tt
bounds_ordered n (Some b) h i l =
    le_of_not_lt (word b.upper i) (word b.lower i) (side_not_nan n b.upper h.upper i l) (side_not_nan n b.lower h.lower i l) (h.ordered i l)

pub accepted_ordered : (s : Setup) → Accepted s → BoundsOrdered (terms_of s)
accepted_ordered s a = bounds_ordered (dimension s) s.bounds (accepted_passed s a).bounds

x0_finite : (s : Setup) → Accepted s → EachFinite (dimension s) s.x0
x0_finite s a i l = holds (each_at Finite s.x0 i nan (accepted_passed s a).x0 l)

-- ---- what is clamped

tab_in_box : (t : Terms) (f : ℕ → Float) → BoundsOrdered t → ((i : ℕ) → i < t.n → NotNan (f i)) → InBox t (tab t.n (λ i. in_box t.bounds i (f i)))
tab_in_box t f o h i l =
    rw (get_or-tab t.n (λ j. in_box t.bounds j (f j)) i)
    (clamp_within (f i) (word t.bounds.lower i) (word t.bounds.upper i) (h i l) (o i l))

pub start_in_box : (s : Setup) → Accepted s → InBox (terms_of s) (projected_start s)
unfolding projected_start
start_in_box s a = tab_in_box (terms_of s) (word s.x0) (accepted_ordered s a) (λ i l. finite_not_nan (word s.x0 i) (x0_finite s a i l))

pub line_in_box : (t : Terms) (x d : List Float) (alpha : Float) → BoundsOrdered t → EachFinite t.n x → EachFinite t.n d → T (finite alpha)
    → InBox t (trial_point t.n t.bounds x d alpha)
unfolding trial_point
line_in_box t x d alpha o p q a =
    tab_in_box t (λ i. plus (word x i) (times alpha (word d i))) o
    (λ i l. plus_not_nan (word x i) (times alpha (word d i)) (p i l) (times_not_nan alpha (word d i) a (q i l)))

-- ---- probes

min-le : (a b : Float) → NotNan b → T (le (min a b) b)
min-le a b h = go (is_nan a) refl (lt b a) refl
  where
    go : (t : Bool) → is_nan a ≡ t → (u : Bool) → lt b a ≡ u → T (le (cond t b (cond u b a)) b)
    go true e u q = le_refl b h
    go false e true q = le_refl b h
    go false e false q = le_of_not_lt b a h (not_nan a e) q

le-max : (a b : Float) → NotNan b → T (le b (max a b))
le-max a b h = go (is_nan a) refl (lt a b) refl
  where
    go : (t : Bool) → is_nan a ≡ t → (u : Bool) → lt a b ≡ u → T (le b (cond t b (cond u b a)))
    go true e u q = le_refl b h
    go false e true q = le_refl b h
    go false e false q = le_of_not_lt a b (not_nan a e) h q

-- x stands within its bounds
module _ (x low high : Float) (stands : T (le low x) × T (le x high)) where
  record Probed (side : Side) (v : Float) : Type 0 where
    finite : T (finite v)
    beyond : T (beyond side x v)
    within : T (le low v) × T (le v high)

  plus_probed : (h : Float) → let v = plus_point h x high in finite v && lt x v ≡ true → Probed Side.right v
  plus_probed h e =
      let v = plus_point h x high in
      let p = both_hold (finite v) (lt x v) e in
      let top = le_right_not_nan x high stands.1 in
      let P : Float → Type 0 = λ u. T (le u high) in
      record {
        finite = p.0;
        beyond = p.1;
        within = (
          le_trans low x v stands.0 (le_of_lt x v p.1),
          by_test P (eq (min (plus x h) high) x && lt x high) (λ _. min-le (next_up x) high top) (λ _. min-le (plus x h) high top),
        );
      }

  minus_probed : (h : Float) → let v = minus_point h x low in finite v && lt v x ≡ true → Probed Side.left v
  minus_probed h e =
      let v = minus_point h x low in
      let p = both_hold (finite v) (lt v x) e in
      let bottom = le_left_not_nan low x stands.0 in
      let P : Float → Type 0 = λ u. T (le low u) in
      record {
        finite = p.0;
        beyond = p.1;
        within = (
          by_test P (eq (max (minus x h) low) x && lt low x) (λ _. le-max (next_down x) low bottom) (λ _. le-max (minus x h) low bottom),
          le_trans v x high (le_of_lt v x p.1) stands.1,
        );
      }

  abbrev AllProbed : Probes → Type 0
  AllProbed Probes.neither = Unit {0}
  AllProbed (Probes.both r l) = Probed Side.right r × Probed Side.left l
  AllProbed (Probes.right_only r) = Probed Side.right r
  AllProbed (Probes.left_only l) = Probed Side.left l

  probes_probed :
      (a b : Bool) (scheme : Scheme) (r l : Float) → (a ≡ true → Probed Side.right r) → (b ≡ true → Probed Side.left l)
      → AllProbed (probes a b scheme r l)
  probes_probed true true Scheme.central r l p q = (p refl, q refl)
  probes_probed true true Scheme.forward r l p q = p refl
  probes_probed true false Scheme.central r l p q = p refl
  probes_probed true false Scheme.forward r l p q = p refl
  probes_probed false true Scheme.central r l p q = q refl
  probes_probed false true Scheme.forward r l p q = q refl
  probes_probed false false Scheme.central r l p q = tt
  probes_probed false false Scheme.forward r l p q = tt

  all_probed : (t : Terms) (i : ℕ) → AllProbed (probes_between t i x low high)
  all_probed t i =
      let h = difference_step t i x in
      let r = plus_point h x high in
      let l = minus_point h x low in
      by_test AllProbed (eq low high) (λ _. tt)
      (λ _. probes_probed (finite r && lt x r) (finite l && lt l x) t.scheme r l (plus_probed h) (minus_probed h))

  probe_to :
      (q : Probes) (side : Side) (i : ℕ) (y : List Float) → AllProbed q → asks q side ≡ true
      → (v : Float) × Probed side v × (probe_point q side i y ≡ set y i v)
  probe_to Probes.neither side i y h e = absurd (false≢true e)
  probe_to (Probes.both r l) Side.right i y h e = (r, h.0, refl)
  probe_to (Probes.both r l) Side.left i y h e = (l, h.1, refl)
  probe_to (Probes.right_only r) Side.right i y h e = (r, h, refl)
  probe_to (Probes.right_only r) Side.left i y h e = absurd (false≢true e)
  probe_to (Probes.left_only l) Side.right i y h e = absurd (false≢true e)
  probe_to (Probes.left_only l) Side.left i y h e = (l, h, refl)

pub probe_of :
    (t : Terms) (x : List Float) (i : ℕ) (side : Side) → InBox t x → i < t.n → asks (probes_at t x i) side ≡ true
    → ProbeOf t x i side (probe_point (probes_at t x i) side i x)
unfolding probes_at
probe_of t x i side box l e =
    let v = word x i in
    let low = word t.bounds.lower i in
    let high = word t.bounds.upper i in
    let p = probe_to v low high (box i l) (probes_at t x i) side i x (all_probed v low high (box i l) t i) e in
    record { coordinate = l; to = p.0; moved = p.2; finite = p.1.finite; beyond = p.1.beyond; within = p.1.within }

word_set : (P : Float → Type 0) (x : List Float) (i j : ℕ) (v : Float) → (j ≡ i → P v) → P (word x j) → P (word (set x i v) j)
word_set P [] zero j v p q = q
word_set P [] (suc i) j v p q = q
word_set P (y ∷ x) zero zero v p q = p refl
word_set P (y ∷ x) zero (suc j) v p q = q
word_set P (y ∷ x) (suc i) zero v p q = q
word_set P (y ∷ x) (suc i) (suc j) v p q = word_set P x i j v (λ e. p (ap suc e)) q

pub probe_in_box : (t : Terms) (x : List Float) (i : ℕ) (side : Side) (point : List Float) → InBox t x → ProbeOf t x i side point → InBox t point
probe_in_box t x i side point box p j l =
    rw p.moved (word_set (Within t.bounds j) x i j p.to (λ e. rw e p.within) (box j l))
