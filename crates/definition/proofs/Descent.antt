-- A trial that passes the decrease test is not above the old value. Assumes nothing.
use mathlib.Core.Path.{◌≡◌}
use mathlib.Core.Bool.{true, false}
use mathlib.Core.Logic.{◌⊎◌, inl, inr}
use lib.Dec.{T}
use lib.Ieee.{Float, nan, binary64, is_nan, fits, le, mul}
use lib.Ieee.Scale.{finite}
use Rattle.definition.specs.Number.{plus, times, c1}
use Rattle.definition.proofs.Order.{le_right_not_nan, le_trans}
use Rattle.definition.proofs.Sign.{unsigned, signed, signed_le_zero, round-sign, times-sign}
use Rattle.definition.proofs.Addition.{plus_right_not_nan, plus_nonpositive-le}

-- The share of the slope that the test allows is signed, or a NaN, with which no test passes.
share : (alpha slope : Float) → T (unsigned alpha) → T (signed slope) → (times (times c1 alpha) slope ≡ nan) ⊎ T (signed (times (times c1 alpha) slope))
unfolding mul
share alpha slope a s = go (times-sign false false c1 alpha (round-sign binary64 false 1 10000) a)
  where
    go : (times c1 alpha ≡ nan) ⊎ T (unsigned (times c1 alpha)) → (times (times c1 alpha) slope ≡ nan) ⊎ T (signed (times (times c1 alpha) slope))
    go (inl e) = inl (rw e)
    go (inr u) = times-sign false true (times c1 alpha) slope u s

-- The old value v is finite and one that the format holds; the step is not negative, the slope not positive.
pub trial_not_above : (w v alpha slope : Float) → T (fits binary64 v) → T (finite v) → T (unsigned alpha) → T (signed slope)
    → T (le w (plus v (times (times c1 alpha) slope))) → T (le w v)
unfolding is_nan
trial_not_above w v alpha slope h k a s l = go (times (times c1 alpha) slope) (share alpha slope a s) l
  where
    go : (t : Float) → (t ≡ nan) ⊎ T (signed t) → T (le w (plus v t)) → T (le w v)
    go t (inl e) l = absurd (rw e at (plus_right_not_nan v t (le_right_not_nan w (plus v t) l)))
    go t (inr n) l = le_trans w (plus v t) v l (plus_nonpositive-le v t h k (signed_le_zero t n))
