-- Laws of a slice that is written from its front, and of a probe's point. Assumes nothing.
use mathlib.Core.Path.{◌≡◌, refl, sym, ap, ◌∙◌}
use mathlib.Core.List.{List, ◌++◌}
use Prim.Native.Nat.{ℕ, ◌+◌, ◌*◌, ◌-◌, ◌≤◌, ◌<◌}
use native.Mathlib.Omega.{arith}
use lib.ListN.{length, take, drop, set, length-set, get_or-append}
use lib.Seq.{set-append_left, set-get_or}
use lib.Ieee.{Float, nan}
use Rattle.definition.specs.Vector.{word}
use Rattle.definition.specs.Gradient as G
use Rattle.definition.specs.Machine.{Side, probe_point}
use Rattle.area.specs.Area.{part, view}
use Rattle.area.proofs.Laws.{length-view}
use Rattle.question.specs.Reports.{written, probe_word}

-- the words of vector p, lent as a slice, in front of z
pub copied : (a z : List Float) (n p : ℕ) {x : List Float} → x ≡ take (p * n + n - p * n) (drop (p * n) a) → p * n + n ≤ length a
    → x ++ drop n z ≡ written (view a n p) z
unfolding view part
copied a z n p e l =
    let k : p * n + n - p * n ≡ n = omega arith in
    let q = length-view a n p l in
    rw (e, k, q)

-- ---- a probe's point

pub probe_point_lem : (p : G.Probes) (side : Side) (i : ℕ) (x : List Float) → set x i (probe_word p side (word x i)) ≡ probe_point p side i x
probe_point_lem G.Probes.neither side i x = set-get_or x i nan
probe_point_lem (G.Probes.both r l) Side.right i x = refl
probe_point_lem (G.Probes.both r l) Side.left i x = refl
probe_point_lem (G.Probes.right_only r) side i x = refl
probe_point_lem (G.Probes.left_only l) side i x = refl

-- word i of the slice, where x is written from its front
pub written_word : (x z : List Float) (i : ℕ) → i < length x → word (written x z) i ≡ word x i
written_word x z i h = get_or-append x (drop (length x) z) nan i h

pub written_set : (x z : List Float) (i : ℕ) (v : Float) → i < length x → set (written x z) i v ≡ written (set x i v) z
written_set x z i v h = set-append_left x (drop (length x) z) i v h ∙ ap (λ (k : ℕ). set x i v ++ drop k z) (sym (length-set x i v))

pub probe_written : {p q : G.Probes} (side : Side) (x z : List Float) {b : List Float} {i : ℕ} {v : Float}
    → b ≡ written x z → i < length x → p ≡ q → v ≡ probe_word p side (word b i) → set b i v ≡ written (probe_point q side i x) z
probe_written {p} {q} side x z {b} {i} {v} e h d g =
    rw (g, e, d, written_word x z i h, written_set x z i (probe_word q side (word x i)) h, probe_point_lem q side i x)
