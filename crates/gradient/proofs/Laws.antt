-- The probes by the points that are taken; for callers, the step and the probes of a coordinate under the terms of a fit. Assumes nothing.
use Rattle.std.specs.Prelude.{None, Some}
use Prim.Native.Nat.{ℕ, ◌+◌, ◌*◌, ◌<◌}
use mathlib.Core.Bool.{Bool, true, false, cond, ◌&&◌}
use mathlib.Core.Path.{◌≡◌, refl}
use mathlib.Core.List.{List}
use lib.Ieee as Ieee
use lib.Ieee.{Float}
use lib.Ieee.Scale.{finite}
use Rattle.definition.specs.Vector.{word}
use Rattle.definition.specs.Problem.{Terms, Scheme, forward, central}
use Rattle.definition.specs.Gradient.{probes, probes_of, difference_step, probes_between, probes_at}
use Rattle.area.specs.Area.{view, vector_trial, vector_lower, vector_upper}
use Rattle.area.proofs.Laws.{word-view}
use Rattle.gradient.specs.Probing.{step_for, taken_of, probes_by, probes_for}

by_taken : (s : Scheme) (r l : Bool) (plus minus : Float) → probes_by (cond r (Some plus) None) (cond l (Some minus) None) s ≡ probes r l s plus minus
by_taken central true true plus minus = refl
by_taken forward true true plus minus = refl
by_taken s true false plus minus = refl
by_taken s false true plus minus = refl
by_taken s false false plus minus = refl

pub probes_by_is : (s : Scheme) (x plus minus : Float)
    → probes_by (taken_of plus (Ieee.lt x plus)) (taken_of minus (Ieee.lt minus x)) s ≡ probes_of s x plus minus
probes_by_is s x plus minus = by_taken s (finite plus && Ieee.lt x plus) (finite minus && Ieee.lt minus x) plus minus

pub step_for_lem : (t : Terms) (i : ℕ) (x : Float) → step_for t.eps t.scheme x ≡ difference_step t i x
step_for_lem t i x = refl

pub probes_for_lem : (t : Terms) (i : ℕ) (x low high : Float) → probes_for t.eps t.scheme x low high ≡ probes_between t i x low high
probes_for_lem t i x low high = refl

pub probes_at_lem : (t : Terms) (i : ℕ) (x : List Float)
    → probes_for t.eps t.scheme (word x i) (word t.bounds.lower i) (word t.bounds.upper i) ≡ probes_at t x i
unfolding probes_at
probes_at_lem t i x = refl

-- read off the area
pub probes_read : (t : Terms) (a : List Float) (n i : ℕ) → i < n → t.bounds.lower ≡ view a n vector_lower → t.bounds.upper ≡ view a n vector_upper
    → probes_for t.eps t.scheme (word a (vector_trial * n + i)) (word a (vector_lower * n + i)) (word a (vector_upper * n + i))
    ≡ probes_at t (view a n vector_trial) i
probes_read t a n i h l u =
    rw (word-view a n vector_trial i h, word-view a n vector_lower i h, word-view a n vector_upper i h, ← l, ← u) (probes_at_lem t i (view a n vector_trial))
