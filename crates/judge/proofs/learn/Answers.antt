-- `judge::learn` meets its contract: the differences stand in scratch, and the ring takes them. Assumes nothing.
use mathlib.Core.Path.{◌≡◌, ap, ◌∙◌}
use mathlib.Core.List.{List}
use Prim.Native.Nat.{ℕ, ◌<◌}
use native.Mathlib.Omega.{arith}
use lib.Ieee.{Float}
use Rattle.definition.specs.Compact as C
use Rattle.definition.specs.Machine as M
use Rattle.definition.specs.Driver.{learn}
use Rattle.area.specs.Area.{Vecs, view, first_pair, ScratchOnly, difference_of}
use Rattle.area.specs.Area.{vector_velocity, vector_displacement, vector_trial, vector_x, vector_trial_gradient, vector_g}
use Rattle.area.proofs.Laws.{scratch_refl, scratch_upd}
use Rattle.compact.specs.declared.Shape.{Shape}
use Rattle.compact.specs.State.{Updated, compact_of}
use Rattle.fit.specs.declared.Fit.{Fit}
use Rattle.fit.specs.State.{Steps, machine}
use Rattle.fit.proofs.Laws.{with_ring, compacted, steps_as, pairs_kept}
use Rattle.judge.proofs.learn.Goals as goal

-- the vectors with the step and the change of the gradient in scratch
abbrev steps_in : ℕ → Vecs → Vecs
steps_in n v = difference_of n vector_displacement vector_trial_gradient vector_g (difference_of n vector_velocity vector_trial vector_x v)

learn_at : (t : Fit) (v : Vecs) → let w = steps_in t.shape.n v in
    M.with_compact (C.update t.shape.n t.shape.m (compact_of t.shape t.theta w) (w vector_velocity) (w vector_displacement)) (machine t v) ≡ learn (machine t v)
unfolding learn difference_of
learn_at t v =
    let a : vector_velocity < first_pair = omega arith in
    let b : vector_displacement < first_pair = omega arith in
    rw (pairs_kept, pairs_kept)

only_scratch : (n : ℕ) (v : Vecs) → ScratchOnly v (steps_in n v)
unfolding difference_of
only_scratch n v = scratch_upd vector_displacement _ (omega arith) (omega arith) (scratch_upd vector_velocity _ (omega arith) (omega arith) scratch_refl)

learnt : {t : Fit} {g : Shape} {theta : Float} {w : Vecs} {a d : List Float} → w ≡ steps_in t.shape.n (view a t.shape.n)
    → Updated t.shape t.theta w g theta (view d t.shape.n) → Steps learn t a (with_ring g theta t) d
learnt {t} {a = a} e u =
    let v = view a t.shape.n in
    let s = only_scratch t.shape.n v in
    steps_as
    (compacted u.n u.m u.sound (rw e at u.is) (λ q l. u.kept q (omega arith) ∙ (λ i. e i q) ∙ s.low q l)
    (λ q l m. u.kept q m ∙ (λ i. e i q) ∙ s.free q l m))
    (learn_at t v)

pub returns : goal.returns
returns c =
    learnt
    (c.difference-2.ensures ∙ ap (difference_of _ vector_displacement vector_trial_gradient vector_g) c.difference.ensures)
    c.update-updated.ensures
