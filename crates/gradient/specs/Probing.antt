-- What is probed of a coordinate, by its difference step and scheme alone.
use Rattle.std.specs.Prelude.{Bool, cond, ◌&&◌, Float}
use Rattle.std.specs.Prelude.{Option, None, Some}
use Rattle.std.specs.Float.Ieee as Ieee
use Rattle.std.specs.Float.Ieee.Scale.{finite}
use Rattle.definition.specs.Number.{times, abs, max, one64}
use Rattle.definition.specs.Problem as P
use Rattle.definition.specs.Gradient as G
use Rattle.gradient.specs.declared.Probes.{Probes}
use Rattle.gradient.specs.declared.Probes.TheVariants.{Neither, Both, RightOnly, LeftOnly}

abbrev pub probes_in : Probes → G.Probes
probes_in Neither = G.Probes.neither
probes_in (Both r l) = G.Probes.both r l
probes_in (RightOnly r) = G.Probes.right_only r
probes_in (LeftOnly l) = G.Probes.left_only l

-- `difference_step` by the eps given and the scheme
abbrev pub step_for : Option Float → P.Scheme → Float → Float
step_for eps s x = P.or_else eps (times (G.relative_step s) (max (abs x) one64))

-- a point that moves, where it is finite
abbrev pub taken_of : Float → Bool → Option Float
taken_of p moves = cond (finite p && moves) (Some p) None

-- `probes` by the points that are taken
abbrev pub probes_by : Option Float → Option Float → P.Scheme → G.Probes
probes_by (Some r) (Some l) P.Scheme.central = G.Probes.both r l
probes_by (Some r) (Some l) P.Scheme.forward = G.Probes.right_only r
probes_by (Some r) None s = G.Probes.right_only r
probes_by None (Some l) s = G.Probes.left_only l
probes_by None None s = G.Probes.neither

-- `probes_between` by the eps given and the scheme
abbrev pub probes_for : Option Float → P.Scheme → Float → Float → Float → G.Probes
probes_for eps s x low high =
    cond (Ieee.eq low high) G.Probes.neither
    (G.probes_of s x (G.plus_point (step_for eps s x) x high) (G.minus_point (step_for eps s x) x low))
