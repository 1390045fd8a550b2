-- Laws of the model's ends, and of the definition's branches. Assumes nothing.
use mathlib.Core.Path.{◌≡◌, refl, sym, ap, ◌∙◌}
use mathlib.Core.Bool.{Bool, true, false}
use mathlib.Core.List.{List}
use Rattle.std.specs.Prelude.{Option, None, Some}
use Prim.Native.Nat.{ℕ, ◌<◌}
use native.Mathlib.Omega.{arith}
use borrow.Author.Tests.{ne_eqb}
use lib.Ieee.{Float, of_bits}
use Rattle.definition.specs.Number.{to_float}
use Rattle.definition.specs.Vector.{tab, ◌and_then◌}
use Rattle.definition.specs.Problem.{Bounds, Terms}
use Rattle.definition.specs.Geometry.{generalized_cauchy, primal_minimize}
use Rattle.definition.specs.Compact.{Compact, no_pairs, count}
use Rattle.definition.specs.Counters.{Termination}
use Rattle.definition.specs.Machine.{State, Machine, state, with_compact, ending}
use Rattle.definition.specs.Driver.{Ends, ends_from, ends_of, search_along, towards, without_pairs, descend, gradient_small, iterate}
use Rattle.float.proofs.Constants.{one_word}
use Rattle.area.specs.Area.{Vecs, bounds_of, view, first_pair, ScratchOnly, given}
use Rattle.area.specs.Area.{vector_x, vector_g, vector_lower, vector_upper, vector_direction, vector_cauchy}
use Rattle.area.proofs.Laws.{saved_refl, saved_upd}
use Rattle.compact.specs.declared.Shape.{Shape}
use Rattle.compact.specs.State.{pairs_of, compact_of, Sound, PairsKept}
use Rattle.compact.proofs.Laws.{pairs_count}
use Rattle.cauchy.specs.State.{Points}
use Rattle.subspace.specs.State.{minimum_at, Minimizes, ends_in, directed}
use Rattle.subspace.proofs.Ends.{both_ends, both_ends_lem}
use Rattle.fit.specs.declared.Fit.{Fit}
use Rattle.fit.specs.State.{Turns, Steps, machine_of}
use Rattle.fit.proofs.Laws.{pairs_kept, pairs_same, model_stays, with_ring, compacted, still, steps_then, steps_as, steps_at_lem}
use Rattle.iteration.specs.Model.{ends_where, MachineKept, Offers}

-- ---- what the model leaves as it was

-- the columns are laid out
pub kept_laid : {h : Shape} {a b : Vecs} → PairsKept h a b → MachineKept h a b
kept_laid k = record { low = λ q l. k q (omega arith); free = λ q l m. k q (omega arith); pairs = λ q l m. k q m }

-- and then only scratch is written
pub kept_scratch : {h : Shape} {a b d : Vecs} → MachineKept h a b → ScratchOnly b d → MachineKept h a d
kept_scratch k s = record {
  low = λ q l. s.low q l ∙ k.low q l;
  free = λ q l m. s.free q l m ∙ k.free q l m;
  pairs = λ q l m. s.high q l ∙ k.pairs q l m;
}

pub compact_same : {h : Shape} {size : ℕ} (theta : Float) {a b : Vecs} → Sound h size → MachineKept h a b → compact_of h theta b ≡ compact_of h theta a
compact_same {h} theta {a} {b} s k = λ i. record { pairs = pairs_same h a b s k.pairs i; theta = theta; oldest = h.oldest }

-- what is made of the terms, the compact form and the point held
pub made_same : {A : Type 0} (F : ℕ → Bounds → Compact → List Float → List Float → A) {h : Shape} {size : ℕ} (theta : Float) {a b : Vecs}
    → Sound h size → MachineKept h a b → (t : Terms) → t.n ≡ h.n → t.bounds ≡ bounds_of a
    → F h.n (bounds_of b) (compact_of h theta b) (b vector_x) (b vector_g) ≡ F t.n t.bounds (compact_of h theta a) (a vector_x) (a vector_g)
made_same F {h} theta {a} {b} s k t n q =
    let l = k.low vector_lower (omega arith) in
    let u = k.low vector_upper (omega arith) in
    let x = k.low vector_x (omega arith) in
    let g = k.low vector_g (omega arith) in
    let c = compact_same theta s k in
    (λ i. F h.n (record { lower = l i; upper = u i }) (c i) (x i) (g i)) ∙ sym (λ i. F (n i) (q i) (compact_of h theta a) (a vector_x) (a vector_g))

-- ---- the ends

abbrev point_at : Shape → Float → Vecs → Option (List Float)
point_at h theta v = generalized_cauchy h.n (bounds_of v) (compact_of h theta v) (v vector_x) (v vector_g)

ends_from_lem : (t : Terms) (c : Compact) (h : State) {o : Option (List Float)} → o ≡ generalized_cauchy t.n t.bounds c h.x h.g
    → (o and_then ends_from t c h) ≡ ends_of t c h
unfolding ends_of
ends_from_lem t c h e = ap (λ (o : Option (List Float)). o and_then ends_from t c h) e

-- no Cauchy point
pub no_point : {h : Shape} {size : ℕ} {theta : Float} {a b d : Vecs} {ok : Bool}
    → Sound h size → PairsKept h a b → Points (point_at h theta b) b ok d → ok ≡ false → Offers h theta a false d
no_point {h} {size} {theta} {a} {b} {d} s k p e = record {
  is = λ t n q f.
      ends_from_lem t (compact_of h theta a) (state (a vector_x) f (a vector_g))
      (ap (λ (o : Bool). given o (d vector_cauchy)) (sym e) ∙ p.is ∙ made_same generalized_cauchy theta s (kept_laid k) t n q);
  kept = kept_scratch (kept_laid k) p.kept;
}

-- a Cauchy point, and what the minimum over its free coordinates gives
pub from_point : {h : Shape} {size : ℕ} {theta : Float} {a b d e : Vecs} {ok r : Bool}
    → Sound h size → PairsKept h a b → Points (point_at h theta b) b ok d → ok ≡ true → Minimizes (minimum_at h theta d) d r e → Offers h theta a r e
from_point {h} {size} {theta} {a} {b} {d} s k p o m =
    let kd = kept_scratch (kept_laid k) p.kept in
    record {
      is = λ t n q f.
          both_ends_lem m
          ∙ ap (both_ends (d vector_cauchy)) (made_same (λ n b c x g. primal_minimize n b c x g (d vector_cauchy)) theta s kd t n q)
          ∙ ends_from_lem t (compact_of h theta a) (state (a vector_x) f (a vector_g))
          (ap (λ (o : Bool). given o (d vector_cauchy)) (sym o) ∙ p.is ∙ made_same generalized_cauchy theta s (kept_laid k) t n q);
      kept = kept_scratch kd m.kept;
    }

some_ends : (v : Vecs) {F : Option Ends} {ok : Bool} → ok ≡ true → ends_where ok v ≡ F → F ≡ Some (ends_in v)
some_ends v o e = sym e ∙ ap (λ (ok : Bool). ends_where ok v) o

no_ends : (v : Vecs) {F : Option Ends} {ok : Bool} → ok ≡ false → ends_where ok v ≡ F → F ≡ None
no_ends v o e = sym e ∙ ap (λ (ok : Bool). ends_where ok v) o

-- ---- the definition's branches

module _ (m : Machine) where
  by_ends : {e : Ends} → ends_of m.terms m.compact m.held ≡ Some e → towards e m ≡ descend m
  unfolding descend
  by_ends e = rw e

  by_failure : ends_of m.terms m.compact m.held ≡ None → count m.compact ≡ 0 → ending Termination.line_search_failed m ≡ descend m
  unfolding descend
  by_failure e z = rw (e, z)

  by_retry : ends_of m.terms m.compact m.held ≡ None → (count m.compact ≡ 0 → ⊥) → without_pairs m ≡ descend m
  unfolding descend
  by_retry e z = rw (e, ne_eqb (count m.compact) 0 z)

  retry_ends : {e : Ends} → ends_of m.terms no_pairs m.held ≡ Some e → towards e (with_compact no_pairs m) ≡ without_pairs m
  unfolding without_pairs
  retry_ends e = rw e

  retry_failure : ends_of m.terms no_pairs m.held ≡ None → ending Termination.line_search_failed (with_compact no_pairs m) ≡ without_pairs m
  unfolding without_pairs
  retry_failure e = rw e

  pub iterate_ends : {r : Bool} → r ≡ gradient_small m → r ≡ true → ending Termination.gtol m ≡ iterate m
  unfolding iterate
  iterate_ends e t = rw (← e, t)

  pub iterate_on : {r : Bool} → r ≡ gradient_small m → r ≡ false → descend m ≡ iterate m
  unfolding iterate
  iterate_on e t = rw (← e, t)

-- ---- along the direction to the chosen end

pub directed_along : {t r : Fit} {a b d : List Float} → ((f : Float) → view b t.shape.n ≡ directed t.shape.n f (view a t.shape.n))
    → Steps search_along t b r d → Steps (towards (ends_in (view a t.shape.n))) t a r d
unfolding towards
directed_along {t} h k =
    let l : vector_direction < first_pair = omega arith in
    steps_at_lem k (h t.value) (saved_upd vector_direction _ (omega arith) (λ e. omega arith) saved_refl) (rw pairs_kept)

-- ---- by what the model offers

-- with the pairs that there are
abbrev pub Offered : Fit → List Float → Bool → List Float → Type 0
Offered t a ok b = Offers t.shape t.theta (view a t.shape.n) ok (view b t.shape.n)

ends_are : (t : Fit) (a : List Float) {ok : Bool} {b : Vecs} → Offers t.shape t.theta (view a t.shape.n) ok b
    → ends_where ok b ≡ ends_of (machine_of t a).terms (machine_of t a).compact (machine_of t a).held
ends_are t a o = o.is (machine_of t a).terms refl refl t.value

stays : {t : Fit} {size : ℕ} {a b : List Float} {ok : Bool} → Sound t.shape size → Offered t a ok b → Steps (λ (m : Machine). m) t a t b
stays s o = model_stays s o.kept.low o.kept.free o.kept.pairs

-- the area stays
turned : {F : Machine → Machine} {t r : Fit} {a : List Float} → Turns F t r → Steps F t a r a
turned h = still h refl

pub descend_towards : {t r : Fit} {size : ℕ} {a b d : List Float} {ok : Bool} → Sound t.shape size → Offered t a ok b → ok ≡ true
    → Steps (towards (ends_in (view b t.shape.n))) t b r d → Steps descend t a r d
descend_towards {t} {a = a} {b = b} s o e h =
    steps_as (steps_then (stays s o) h) (by_ends (machine_of t a) (some_ends (view b t.shape.n) e (ends_are t a o)))

pub descend_ends : {t r : Fit} {size : ℕ} {a b : List Float} {ok : Bool} → Sound t.shape size → Offered t a ok b → ok ≡ false → t.shape.pairs ≡ 0
    → Turns (ending Termination.line_search_failed) t r → Steps descend t a r b
descend_ends {t} {a = a} {b = b} s o e z h =
    let v = view a t.shape.n in
    steps_as (steps_then (stays s o) (turned h)) (by_failure (machine_of t a) (no_ends (view b t.shape.n) e (ends_are t a o)) (pairs_count t.shape v ∙ z))

pub descend_again : {t r : Fit} {size : ℕ} {a b d : List Float} {ok : Bool} → Sound t.shape size → Offered t a ok b → ok ≡ false → (t.shape.pairs ≡ 0 → ⊥)
    → Steps without_pairs t b r d → Steps descend t a r d
descend_again {t} {a = a} {b = b} s o e z h =
    let v = view a t.shape.n in
    steps_as (steps_then (stays s o) h)
    (by_retry (machine_of t a) (no_ends (view b t.shape.n) e (ends_are t a o)) (λ q. z (sym (pairs_count t.shape v) ∙ q)))

-- ---- the pairs dropped

abbrev one : Float
one = to_float one_word

abbrev dropped : Shape → Shape
dropped h = record { n = h.n; m = h.m; pairs = 0; oldest = 0 }

sound_dropped : {h : Shape} {size : ℕ} → Sound h size → Sound (dropped h) size
sound_dropped s = record { few = s.few; most = omega arith; ring = omega (arith, s.ring); all = s.all }

no_pairs_lem : (h : Shape) (v : Vecs) → compact_of (dropped h) one v ≡ no_pairs
unfolding pairs_of tab of_bits
no_pairs_lem h v = refl

abbrev OfferedAgain : Fit → List Float → Bool → List Float → Type 0
OfferedAgain t a ok b = Offers (dropped t.shape) one (view a t.shape.n) ok (view b t.shape.n)

ends_again : (t : Fit) (a : List Float) {ok : Bool} {b : Vecs} → Offers (dropped t.shape) one (view a t.shape.n) ok b
    → ends_where ok b ≡ ends_of (machine_of t a).terms no_pairs (machine_of t a).held
ends_again t a o =
    o.is (machine_of t a).terms refl refl t.value
    ∙ ap (λ (c : Compact). ends_of (machine_of t a).terms c (machine_of t a).held) (no_pairs_lem t.shape (view a t.shape.n))

drops : {t : Fit} {a b : List Float} {ok : Bool} → OfferedAgain t a ok b → Steps (with_compact no_pairs) t a (with_ring (dropped t.shape) one t) b
drops {t} {b = b} o = compacted refl refl (λ size. sound_dropped) (no_pairs_lem t.shape (view b t.shape.n)) o.kept.low o.kept.free

pub again_towards : {t r : Fit} {a b d : List Float} {ok : Bool} → OfferedAgain t a ok b → ok ≡ true
    → Steps (towards (ends_in (view b t.shape.n))) (with_ring (dropped t.shape) one t) b r d → Steps without_pairs t a r d
again_towards {t} {a = a} {b = b} o e h =
    steps_as (steps_then (drops o) h) (retry_ends (machine_of t a) (some_ends (view b t.shape.n) e (ends_again t a o)))

pub again_ends : {t r : Fit} {a b : List Float} {ok : Bool} → OfferedAgain t a ok b → ok ≡ false
    → Turns (ending Termination.line_search_failed) (with_ring (dropped t.shape) one t) r → Steps without_pairs t a r b
again_ends {t} {a = a} {b = b} o e h =
    steps_as (steps_then (drops o) (turned h)) (retry_failure (machine_of t a) (no_ends (view b t.shape.n) e (ends_again t a o)))
