-- What the functions of a trial make of the words at one index of all the vectors.
use Rattle.std.specs.Prelude.{ℕ, cond, Float}
use Rattle.std.specs.Float.Ieee as Ieee
use Rattle.definition.specs.Number.{plus, minus, times, over, min, max, clamp, zero64, infinity}
use Rattle.area.specs.Area.{vector_x, vector_g, vector_lower, vector_upper, vector_direction}

abbrev pub trial_in : Float → (ℕ → Float) → Float
trial_in alpha w = clamp (plus (w vector_x) (times alpha (w vector_direction))) (w vector_lower) (w vector_upper)

abbrev pub projected_in : (ℕ → Float) → Float
projected_in w =
    cond (Ieee.lt zero64 (w vector_g))
    (min (w vector_g) (max (minus (w vector_x) (w vector_lower)) zero64))
    (min (Ieee.neg (w vector_g)) (max (minus (w vector_upper) (w vector_x)) zero64))

abbrev pub distance_in : (ℕ → Float) → Float
distance_in w =
    cond (Ieee.lt zero64 (w vector_direction)) (over (minus (w vector_upper) (w vector_x)) (w vector_direction))
    (cond (Ieee.lt (w vector_direction) zero64) (over (minus (w vector_lower) (w vector_x)) (w vector_direction)) infinity)
