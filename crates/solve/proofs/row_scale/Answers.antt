-- `solve::row_scale` meets its contract; in its loop m is the largest of most and the first j magnitudes. Assumes nothing.
use mathlib.Core.Path.{ap, ◌∙◌}
use Prim.Native.Nat.{◌<◌}
use native.Mathlib.Omega.{arith}
use lib.Ieee.{Float, nan}
use Rattle.std.proofs.Common.{length-take, get_or-take}
use Rattle.definition.specs.Number.{abs, max}
use Rattle.area.proofs.Laws.{looped_none, looped_more}
use Rattle.solve.proofs.row_scale.Goals as goal

pub loop-x-init : goal.loop-x-init
loop-x-init c = (c.requires.1, looped_none)

pub loop-x-preserved : goal.loop-x-preserved
loop-x-preserved c =
    let k = c.loop-x in
    let e : k.x-index < c.args.n = omega (arith, length-take {A = Float}) in (
      c.larger_magnitude-largest.ensures.0,
      looped_more k.invariant.1 e
          (c.larger_magnitude-largest.ensures.1
          ∙ ap (λ (x : Float). max k.largest (abs x)) (get_or-take c.args.n c.args.row.now k.x-index nan e)),
    )
