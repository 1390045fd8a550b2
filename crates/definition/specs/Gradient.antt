-- The differenced gradient: for each coordinate what is probed, and what the probes give.
use Rattle.std.specs.Prelude.{ℕ, Bool, true, false, cond, ◌&&◌, List, Float}
use Rattle.std.specs.Float.Ieee as Ieee
use Rattle.std.specs.Float.Ieee.Scale.{finite}
use Rattle.definition.specs.Number.{plus, minus, times, over, abs, min, max, next_up, next_down, one64, root_epsilon, cube_root_epsilon}
use Rattle.definition.specs.Vector.{word}
use Rattle.definition.specs.Problem.{Terms, Scheme, forward, central, or_else}

abbrev pub relative_step : Scheme → Float
relative_step forward = root_epsilon
relative_step central = cube_root_epsilon

-- h, the difference step of coordinate i, which stands at x
abbrev pub difference_step : Terms → ℕ → Float → Float
difference_step t i x = or_else t.eps (times (relative_step t.scheme) (max (abs x) one64))

-- a step within the box, or where that does not move, the next double
abbrev pub nudged_up : Float → Float → Float → Float
nudged_up x high p = cond (Ieee.eq p x && Ieee.lt x high) (min (next_up x) high) p

abbrev pub nudged_down : Float → Float → Float → Float
nudged_down x low p = cond (Ieee.eq p x && Ieee.lt low x) (max (next_down x) low) p

-- the points to the right and to the left, a step h away
abbrev pub plus_point : Float → Float → Float → Float
plus_point h x high = nudged_up x high (min (plus x h) high)

abbrev pub minus_point : Float → Float → Float → Float
minus_point h x low = nudged_down x low (max (minus x h) low)

-- what is probed of a coordinate, with the points
pub data Probes : Type 0 where
  neither : Probes
  both : Float → Float → Probes
  right_only : Float → Probes
  left_only : Float → Probes

abbrev pub probes : Bool → Bool → Scheme → Float → Float → Probes
probes true true central right left = both right left
probes true true forward right left = right_only right
probes true false s right left = right_only right
probes false true s right left = left_only left
probes false false s right left = neither

-- a probe point that is not finite, or does not move, is not taken
abbrev pub probes_of : Scheme → Float → Float → Float → Probes
probes_of s x right left = probes (finite right && Ieee.lt x right) (finite left && Ieee.lt left x) s right left

-- nothing where lower = upper
abbrev pub probes_between : Terms → ℕ → Float → Float → Float → Probes
probes_between t i x low high =
    cond (Ieee.eq low high) neither
    (probes_of t.scheme x (plus_point (difference_step t i x) x high) (minus_point (difference_step t i x) x low))

-- coordinate i of the point x
unfoldable pub probes_at : Terms → List Float → ℕ → Probes
probes_at t x i = probes_between t i (word x i) (word t.bounds.lower i) (word t.bounds.upper i)

-- the quotients: by the step taken
abbrev pub both_quotient : Float → Float → Float → Float → Float
both_quotient right left f_right f_left = over (minus f_right f_left) (minus right left)

abbrev pub right_quotient : Float → Float → Float → Float → Float
right_quotient x fx right f_right = over (minus f_right fx) (minus right x)

abbrev pub left_quotient : Float → Float → Float → Float → Float
left_quotient x fx left f_left = over (minus fx f_left) (minus x left)
