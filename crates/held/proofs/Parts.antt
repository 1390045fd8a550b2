-- Laws of the mark. Assumes nothing.
use Prim.Native.Nat.{ℕ, ◌+◌, ◌*◌, ◌≤◌, ◌<◌}
use native.Mathlib.Nat.{mul-le-mul}
use native.Mathlib.Omega.{arith}
use mathlib.Core.Path.{◌≡◌, ap, ◌∙◌}
use mathlib.Core.Bool.{true}
use mathlib.Core.List.{List}
use lib.ListN.{length, set, length-set}
use lib.Seq.{get_or-set_same}
use lib.Ieee as Ieee
use lib.Ieee.{Float, nan}
use Rattle.definition.specs.Number.{one64}
use Rattle.definition.specs.Problem.{most_coordinates, most_pairs}
use Rattle.area.specs.Area.{view, vectors}
use Rattle.area.proofs.Laws.{view-set, upd_other}
use Rattle.area.proofs.Sizes.{behind}
use Rattle.compact.specs.declared.Shape.{Shape}
use Rattle.held.specs.Test.{mark_at, shape_held, Marks}
use Rattle.held.proofs.Test.{shape_facts}

-- ---- the mark

-- where the mark stands is within the area, behind the vectors
pub record Behind (h : Shape) (size : ℕ) : Type 0 where
  pub some : 0 < h.n
  pub n : h.n ≤ most_coordinates
  pub m : h.m ≤ most_pairs
  pub room : mark_at h < size

pub mark_most : (h : Shape) → h.n ≤ most_coordinates → h.m ≤ most_pairs → mark_at h ≤ vectors most_pairs * most_coordinates
mark_most h n m = mul-le-mul {n₂ = vectors most_pairs} {m₂ = most_coordinates} (omega arith) n

pub mark_behind : (h : Shape) (size : ℕ) → shape_held h size ≡ true → Behind h size
mark_behind h size e =
    let k = shape_facts h size e in
    record { some = k.positive; n = k.n; m = k.few; room = omega (arith, k.some, k.area, behind h.n h.m) }

-- a word behind the first p vectors is in none of them
before_kept : (a : List Float) (n p : ℕ) (v : Float) → 0 < n → (q : ℕ) → q < p → view (set a (p * n) v) n q ≡ view a n q
before_kept a n p v h q l =
    let e : p * n ≡ p * n + 0 = omega arith in
    ap (λ (k : ℕ). view (set a k v) n q) e ∙ (λ i. view-set a n p 0 v h i q) ∙ upd_other (view a n) p q (set (view a n p) 0 v) (λ d. omega arith)

pub marks : (h : Shape) (a : List Float) (i : ℕ) (v : Float) → i ≡ mark_at h → v ≡ one64 → shape_held h (length a) ≡ true → Marks h a (set a i v)
unfolding Ieee.eq
marks h a i v d e k =
    let b = mark_behind h (length a) k in
    rw d
    (record {
      size = length-set a (mark_at h) v;
      mark = ap (λ (x : Float). Ieee.eq x one64) (get_or-set_same a (mark_at h) v nan b.room ∙ e);
      kept = before_kept a h.n (vectors h.m) v b.some;
    })
