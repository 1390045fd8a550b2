-- What each step of the minimization makes of the vectors. Assumes nothing.
use mathlib.Core.Path.{◌≡◌, refl, sym, ap, ◌∙◌}
use mathlib.Core.Bool.{Bool, true, false, not, cond}
use mathlib.Core.List.{List}
use Rattle.std.specs.Prelude.{Option, None, Some}
use Prim.Native.Nat.{ℕ, ◌≤◌, ◌<◌}
use native.Mathlib.Omega.{arith}
use borrow.Author.Tests.{eq-eqb, ne_eqb, not-true, not-false}
use lib.Ieee as Ieee
use lib.Ieee.{Float, nan}
use Rattle.definition.specs.Number.{plus, over, zero64}
use Rattle.definition.specs.Vector.{tab, word, difference, all_finite, ◌and_then◌}
use Rattle.definition.specs.Compact.{count, product}
use Rattle.definition.specs.Geometry.{free, free_steps, correction, steps_with_pairs, moved, moved_by, on_free, primal_minimize}
use Rattle.area.specs.Area.{Vecs, bounds_of, upd, rowwise, given, copy_of, difference_of, first_free, ScratchOnly, vector_x, vector_g}
use Rattle.area.specs.Area.{vector_lower, vector_upper, vector_displacement, vector_cauchy, vector_target, vector_product_d, vector_product_z, vector_step}
use Rattle.area.proofs.Laws.{scratch_refl, scratch_trans, scratch_upd}
use Rattle.compact.specs.declared.Shape.{Shape}
use Rattle.compact.specs.declared.Model.{Model}
use Rattle.compact.specs.State.{compact_of, Prepared, Modelled, Multiplied}
use Rattle.compact.proofs.Laws.{tab-get, tab_same, pairs_count}
use Rattle.compact.proofs.Models.{compact_kept, compact_upd, modelled_kept, modelled_upd, prepared_upd}
use Rattle.subspace.specs.State.{plain_in, weighted_in, moved_in, any_free_at, weights_at, product_at, residual_from, residual_at}
use Rattle.subspace.specs.State.{corrections_at, steps_at, moved_at, moved_by_share_at, free_minimum_at, minimum_at, Makes}

scratch_by : {a b : Vecs} (p : ℕ) (x : List Float) → 8 ≤ p → p < first_free → b ≡ upd a p x → ScratchOnly a b
scratch_by p x l h e = rw e (scratch_upd p x l h scratch_refl)

given_is : (t : Bool) (v : List Float) → given t v ≡ cond t (Some v) None
given_is true v = refl
given_is false v = refl

pub makes_as : {p : ℕ} {F E : Option (List Float)} {a b : Vecs} {ok : Bool} → F ≡ E → Makes p F a ok b → Makes p E a ok b
makes_as e m = record { is = m.is ∙ e; cauchy = m.cauchy; kept = m.kept }

-- a flag's value, for the vector that it stands for
pub lacks : {F : Option (List Float)} (ok : Bool) (v : List Float) → given ok v ≡ F → not ok ≡ true → None ≡ F
lacks ok v e t = ap (λ (t : Bool). given t v) (sym (not-true ok t)) ∙ e

pub has : {F : Option (List Float)} (ok : Bool) (v : List Float) → given ok v ≡ F → not ok ≡ false → Some v ≡ F
has ok v e t = ap (λ (t : Bool). given t v) (sym (not-false ok t)) ∙ e

-- ---- the target, from the steps

pub moves : (n : ℕ) (a b : Vecs) (alpha : Float) (ok : Bool) → b ≡ rowwise n vector_target (λ (i : ℕ). moved_in alpha) a → ok ≡ all_finite n (b vector_target)
    → Makes vector_target (moved_at n a alpha) a ok b
unfolding rowwise moved
moves n a b alpha ok e f =
    let x = tab n (λ (i : ℕ). moved_in alpha (λ (q : ℕ). word (a q) i)) in
    let s : b vector_target ≡ x = λ k. e k vector_target in
    let t : ok ≡ all_finite n x = f ∙ ap (all_finite n) s in
    record {
      is = given_is ok (b vector_target) ∙ (λ k. cond (t k) (Some (s k)) None);
      cauchy = λ k. e k vector_cauchy;
      kept = scratch_by vector_target x (omega arith) (omega arith) e;
    }

-- ---- the residual

pub differenced : {m : Model} {a b : Vecs} (q r : ℕ) → b ≡ difference_of m.shape.n vector_displacement q r a → Modelled m a → Modelled m b
unfolding difference_of
differenced {m} {a} q r e k = rw e (modelled_upd vector_displacement (difference m.shape.n (a q) (a r)) (omega arith) k)

pub prepared_differenced : {m : Model} {a b : Vecs} (q r : ℕ) → b ≡ difference_of m.shape.n vector_displacement q r a → Prepared m a → Prepared m b
unfolding difference_of
prepared_differenced {m} {a} q r e k = rw e (prepared_upd vector_displacement (difference m.shape.n (a q) (a r)) (omega arith) k)

product_is : (h : Shape) (theta : Float) (a b d : Vecs) (ok : Bool) → b ≡ difference_of h.n vector_displacement vector_cauchy vector_x a
    → Multiplied h theta vector_product_z vector_displacement b ok d
    → given ok (d vector_product_z) ≡ product_at h theta a
unfolding difference_of
product_is h theta a b d ok e m =
    let same : compact_of h theta b ≡ compact_of h theta a
    = ap (compact_of h theta) e ∙ compact_upd h theta a vector_displacement (difference h.n (a vector_cauchy) (a vector_x)) (omega arith) in
    m.is ∙ (λ k. product h.n (same k) (e k vector_displacement))

-- what difference and product leave as it was
after_product : (h : Shape) (theta : Float) (a b d : Vecs) (ok : Bool) → b ≡ difference_of h.n vector_displacement vector_cauchy vector_x a
    → Multiplied h theta vector_product_z vector_displacement b ok d
    → (d vector_g ≡ a vector_g) × (d vector_cauchy ≡ a vector_cauchy) × ScratchOnly a d
unfolding difference_of
after_product h theta a b d ok e m = (
  (λ k. m.frame k vector_g) ∙ (λ k. e k vector_g),
  (λ k. m.frame k vector_cauchy) ∙ (λ k. e k vector_cauchy),
  scratch_trans
      (scratch_by vector_displacement (difference h.n (a vector_cauchy) (a vector_x)) (omega arith) (omega arith) e)
      (scratch_by vector_product_z (d vector_product_z) (omega arith) (omega arith) m.frame),
)

pub no_residual : (h : Shape) (theta : Float) (a b d : Vecs) (ok : Bool) → b ≡ difference_of h.n vector_displacement vector_cauchy vector_x a
    → Multiplied h theta vector_product_z vector_displacement b ok d → not ok ≡ true → Makes vector_product_d (residual_at h theta a) a false d
no_residual h theta a b d ok e m t =
    let k = after_product h theta a b d ok e m in
    record {
      is = ap (residual_from h.n (a vector_g)) (lacks ok (d vector_product_z) (product_is h theta a b d ok e m) t);
      cauchy = k.1;
      kept = k.2;
    }

pub a_residual : (h : Shape) (theta : Float) (a b d r : Vecs) (ok : Bool) → b ≡ difference_of h.n vector_displacement vector_cauchy vector_x a
    → Multiplied h theta vector_product_z vector_displacement b ok d → not ok ≡ false
    → r ≡ rowwise h.n vector_product_d (λ (i : ℕ) w. plus (w vector_product_z) (w vector_g)) d → Makes vector_product_d (residual_at h theta a) a true r
unfolding rowwise
a_residual h theta a b d r ok e m t f =
    let k = after_product h theta a b d ok e m in
    let x = tab h.n (λ (i : ℕ). plus (word (d vector_product_z) i) (word (d vector_g) i)) in
    record {
      is =
          (λ j. Some (f j vector_product_d))
          ∙ ap (λ (g : List Float). Some (tab h.n (λ (i : ℕ). plus (word (d vector_product_z) i) (word g i)))) k.0
          ∙ ap (residual_from h.n (a vector_g)) (has ok (d vector_product_z) (product_is h theta a b d ok e m) t);
      cauchy = (λ j. f j vector_cauchy) ∙ k.1;
      kept = scratch_trans k.2 (scratch_by vector_product_d x (omega arith) (omega arith) f);
    }

-- ---- the steps

pub plain : (h : Shape) (theta : Float) (a b : Vecs) → h.pairs ≡ 0 → b ≡ rowwise h.n vector_step (λ (i : ℕ). plain_in theta) a
    → Makes vector_step (steps_at h theta a) a true b
unfolding rowwise
plain h theta a b z e = record {
  is = rw (pairs_count h a, eq-eqb h.pairs 0 z) (λ k. Some (e k vector_step));
  cauchy = λ k. e k vector_cauchy;
  kept = scratch_by vector_step (tab h.n (λ (i : ℕ). plain_in theta (λ (q : ℕ). word (a q) i))) (omega arith) (omega arith) e;
}

abbrev weighted_at : Shape → Float → Vecs → Option (List Float) → Option (List Float)
weighted_at h theta a w =
    w and_then λ z.
    let c = correction (compact_of h theta a) z in
    Some (free_steps h.n (bounds_of a) (a vector_cauchy) (λ i. over (Ieee.neg (plus (word (a vector_product_d) i) (over (c i) theta))) theta))

-- with pairs, the steps are those of the weights
pub by_weights : (h : Shape) (theta : Float) (a : Vecs) (w : Option (List Float)) → (h.pairs ≡ 0 → ⊥) → w ≡ weights_at h theta a
    → weighted_at h theta a w ≡ steps_at h theta a
unfolding steps_with_pairs
by_weights h theta a w d e = rw (ne_eqb (count (compact_of h theta a)) 0 (λ z. d (sym (pairs_count h a) ∙ z))) (ap (weighted_at h theta a) e)

pub no_steps : (h : Shape) (theta : Float) (a : Vecs) → weighted_at h theta a None ≡ steps_at h theta a → Makes vector_step (steps_at h theta a) a false a
no_steps h theta a e = record { is = e; cauchy = refl; kept = scratch_refl }

pub with_steps : (h : Shape) (theta : Float) (a b d : Vecs) (z : List Float) → weighted_at h theta a (Some z) ≡ steps_at h theta a
    → b ≡ upd a vector_step (corrections_at h theta a z) → d ≡ rowwise h.n vector_step (λ (i : ℕ). weighted_in theta) b
    → Makes vector_step (steps_at h theta a) a true d
unfolding rowwise
with_steps h theta a b d z e f g =
    let c = correction (compact_of h theta a) z in
    let step : Float → Float → Float = λ r s. over (Ieee.neg (plus r (over s theta))) theta in
    record {
      is =
          (λ k. Some (g k vector_step))
          ∙ (λ k. Some (tab h.n (λ (i : ℕ). weighted_in theta (λ (q : ℕ). word (f k q) i))))
          ∙ ap Some
          (tab_same h.n _ _
          (λ i l k. cond (free (bounds_of a) (a vector_cauchy) i) (step (word (a vector_product_d) i) (tab-get h.n c i nan l k)) zero64))
          ∙ e;
      cauchy = (λ k. g k vector_cauchy) ∙ (λ k. f k vector_cauchy);
      kept =
          scratch_trans
          (scratch_by vector_step (tab h.n c) (omega arith) (omega arith) f)
          (scratch_by vector_step (tab h.n (λ (i : ℕ). weighted_in theta (λ (q : ℕ). word (b q) i))) (omega arith) (omega arith) g);
    }

-- ---- residual, steps and target in turn

pub bounds_kept : {p : ℕ} {F : Option (List Float)} {a b : Vecs} {ok : Bool} → Makes p F a ok b → bounds_of b ≡ bounds_of a
bounds_kept m = λ k. record { lower = m.kept.low vector_lower (omega arith) k; upper = m.kept.low vector_upper (omega arith) k }

pub model_kept : {p : ℕ} {F : Option (List Float)} {m : Model} {a b : Vecs} {ok : Bool} → Makes p F a ok b → Modelled m a → Modelled m b
model_kept {b = b} k r = modelled_kept b k.kept.high r

from_residual : (h : Shape) (theta : Float) (a b : Vecs) (ok : Bool) → Makes vector_product_d (residual_at h theta a) a ok b → not ok ≡ false
    → (steps_at h theta b and_then moved_by h.n (bounds_of b) (b vector_cauchy)) ≡ free_minimum_at h theta a
from_residual h theta a b ok m t =
    (λ k. on_free h.n (bounds_kept m k) (m.cauchy k) (compact_kept h theta a b m.kept.high k) (b vector_product_d))
    ∙ ap (λ (o : Option (List Float)). o and_then on_free h.n (bounds_of a) (a vector_cauchy) (compact_of h theta a)) (has ok (b vector_product_d) m.is t)

pub without_steps : (h : Shape) (theta : Float) (a b d : Vecs) (ok made : Bool) → Makes vector_product_d (residual_at h theta a) a ok b → not ok ≡ false
    → Makes vector_step (steps_at h theta b) b made d → not made ≡ true → Makes vector_target (free_minimum_at h theta a) a false d
without_steps h theta a b d ok made m t s u = record {
  is =
      ap (λ (o : Option (List Float)). o and_then moved_by h.n (bounds_of b) (b vector_cauchy)) (lacks made (d vector_step) s.is u)
      ∙ from_residual h theta a b ok m t;
  cauchy = s.cauchy ∙ m.cauchy;
  kept = scratch_trans m.kept s.kept;
}

pub targets : (h : Shape) (theta : Float) (a b d e : Vecs) (ok made r : Bool) → Makes vector_product_d (residual_at h theta a) a ok b → not ok ≡ false
    → Makes vector_step (steps_at h theta b) b made d → not made ≡ false → Makes vector_target (moved_by_share_at h.n d) d r e
    → Makes vector_target (free_minimum_at h theta a) a r e
targets h theta a b d e ok made r m t s u v = record {
  is =
      v.is
      ∙ (λ k. moved_by h.n (bounds_kept s k) (s.cauchy k) (d vector_step))
      ∙ ap (λ (o : Option (List Float)). o and_then moved_by h.n (bounds_of b) (b vector_cauchy)) (has made (d vector_step) s.is u)
      ∙ from_residual h theta a b ok m t;
  cauchy = v.cauchy ∙ s.cauchy ∙ m.cauchy;
  kept = scratch_trans m.kept (scratch_trans s.kept v.kept);
}

-- ---- the minimum

pub minimum_free : (h : Shape) (theta : Float) (a b : Vecs) (t ok : Bool) → t ≡ any_free_at h.n a → t ≡ true
    → Makes vector_target (free_minimum_at h theta a) a ok b
    → Makes vector_target (minimum_at h theta a) a ok b
unfolding primal_minimize
minimum_free h theta a b t ok e d m = makes_as (rw (sym e ∙ d)) m

pub minimum_fixed : (h : Shape) (theta : Float) (a b : Vecs) (t : Bool) → t ≡ any_free_at h.n a → t ≡ false → b ≡ copy_of vector_target vector_cauchy a
    → Makes vector_target (minimum_at h theta a) a true b
unfolding primal_minimize
minimum_fixed h theta a b t e d f = record {
  is = rw (sym e ∙ d) (λ k. Some (f k vector_target));
  cauchy = λ k. f k vector_cauchy;
  kept = scratch_by vector_target (a vector_cauchy) (omega arith) (omega arith) f;
}
