-- Laws of the first vectors and of the machine that a setup begins with. Assumes nothing.
use mathlib.Core.Path.{◌≡◌, refl, ap, ◌∙◌}
use mathlib.Core.Bool.{Bool, true, false}
use mathlib.Core.List.{List}
use Prim.Native.Nat.{ℕ, ◌*◌, ◌≤◌}
use native.Mathlib.Omega.{arith}
use lib.ListN.{length}
use lib.Ieee.{Float}
use Rattle.definition.specs.Number.{zero64}
use Rattle.definition.specs.Problem.{Setup, projected_start}
use Rattle.definition.specs.Driver as D
use Rattle.area.specs.Area.{Vecs, view, upd, copy_of, fill_of, rowwise, first_pair, Saved}
use Rattle.area.specs.Area.{vector_x, vector_g, vector_lower, vector_upper, vector_x0, vector_trial, vector_trial_gradient, vector_direction}
use Rattle.area.proofs.Laws.{room, length-view, saved_refl, saved_upd}
use Rattle.compact.specs.declared.Shape.{Shape}
use Rattle.compact.specs.State.{Sound}
use Rattle.problem.specs.declared.Options.{Options}
use Rattle.fit.specs.declared.Fit.{Fit}
use Rattle.fit.specs.State.{machine}
use Rattle.opening.specs.Opened.{setup_at, Room, boxed, clipped, first_vectors, first_shape, first_machine, First, Opened}

-- ---- vectors

pub first_made : (n : ℕ) (v : Vecs) {w₁ w₂ w₃ w₄ w₅ : Vecs}
    → w₁ ≡ upd v vector_x (clipped n v) → w₂ ≡ copy_of vector_trial vector_x w₁ → w₃ ≡ fill_of n vector_g zero64 w₂
    → w₄ ≡ fill_of n vector_trial_gradient zero64 w₃ → w₅ ≡ fill_of n vector_direction zero64 w₄
    → w₅ ≡ first_vectors n v
unfolding fill_of rowwise
first_made n v a b c d e = rw (e, d, c, b, a)

-- the start and the free vectors stay
box_saved : (b : Bool) (n : ℕ) (v : Vecs) → Saved v (boxed b n v)
box_saved true n v = saved_refl
box_saved false n v = saved_upd vector_upper _ (omega arith) (λ e. omega arith) (saved_upd vector_lower _ (omega arith) (λ e. omega arith) saved_refl)

pub first_saved : (b : Bool) (n : ℕ) (v : Vecs) → Saved v (first_vectors n (boxed b n v))
first_saved b n v =
    saved_upd vector_direction _ (omega arith) (λ e. omega arith)
    (saved_upd vector_trial_gradient _ (omega arith) (λ e. omega arith)
    (saved_upd vector_g _ (omega arith) (λ e. omega arith)
    (saved_upd vector_trial _ (omega arith) (λ e. omega arith) (saved_upd vector_x _ (omega arith) (λ e. omega arith) (box_saved b n v)))))

-- ---- the setup's own start and bounds

pub begins : (o : Options) (n : ℕ) (v : Vecs) → length (v vector_x0) ≡ n → first_machine o n (first_vectors n (boxed o.bounded n v)) ≡ D.begin (setup_at o v)
unfolding D.begin projected_start
begins o n v l = at o.bounded refl
  where
    at : (b : Bool) → o.bounded ≡ b → first_machine o n (first_vectors n (boxed o.bounded n v)) ≡ D.begin (setup_at o v)
    at true e = rw (e, l)
    at false e = rw (e, l)

-- the setup is read off the first vectors as before
pub setup_stays : (o : Options) (n : ℕ) (v : Vecs) → setup_at o (first_vectors n (boxed o.bounded n v)) ≡ setup_at o v
setup_stays o n v = at o.bounded refl
  where
    at : (b : Bool) → o.bounded ≡ b → setup_at o (first_vectors n (boxed o.bounded n v)) ≡ setup_at o v
    at true e = rw e
    at false e = rw e

-- ---- the opening

pub first_room : {o : Options} {n size : ℕ} → Room o n size → first_pair * n ≤ size
first_room r = omega (arith, r.all)

pub start_long : {o : Options} {n : ℕ} (a : List Float) → Room o n (length a) → length (view a n vector_x0) ≡ n
start_long {o} {n} a r = length-view a n vector_x0 (room vector_x0 first_pair n (length a) (omega arith) (first_room r))

first_sound : {o : Options} {n size : ℕ} → Room o n size → Sound (first_shape o n) size
first_sound r = record { few = r.few; most = omega arith; ring = r.some; all = r.all }

pub opened : {o : Options} {n : ℕ} {s : Setup} {a : List Float} {r : Fit} {b : List Float} (w : Vecs)
    → Room o n (length a) → First o n r → length b ≡ length a → view b n ≡ w → setup_at o w ≡ s → Saved (view a n) w → first_machine o n w ≡ D.begin s
    → Opened o n s a r b
opened {o} {n} {s} {a} {r} {b} w h f l e q k g = record {
  options = f.options;
  entries = f.entries;
  words = f.words;
  n = ap (λ (z : Shape). z.n) f.shape;
  m = ap (λ (z : Shape). z.m) f.shape;
  long = l;
  sound = rw (f.shape, l) (first_sound h);
  settled = f.settled;
  setup = ap (setup_at o) e ∙ q;
  free = λ q d m. (λ i. e i q) ∙ k.free q d m;
  is =
      ap (λ (z : Shape). machine r (view b z.n)) f.shape
      ∙ f.is (view b n)
      ∙ ap (first_machine o n) e
      ∙ g;
}
