-- `solve::scale` meets its contract; in its loop most is the largest magnitude of the first rows. Assumes nothing.
use mathlib.Core.Path.{refl, ap, ◌∙◌}
use mathlib.Core.List.{List, []}
use native.Mathlib.Omega.{arith}
use Prim.Native.Nat.{◌<◌}
use lib.Ieee.{Float, is_nan}
use Rattle.std.proofs.Common.{length-take, get_or-take}
use Rattle.float.proofs.Constants.{zero_is}
use Rattle.definition.specs.Number.{abs, max}
use Rattle.definition.specs.Vector.{fold_to, word}
use Rattle.definition.specs.Solve.{scale_of}
use Rattle.area.proofs.Laws.{looped_none, looped_more, looped_done}
use Rattle.solve.proofs.scale.Goals as goal

pub loop-row-init : goal.loop-row-init
unfolding is_nan
loop-row-init c = rw zero_is (refl, looped_none)

pub loop-row-preserved : goal.loop-row-preserved
loop-row-preserved c =
    let k = c.loop-row in
    let n = c.args.n in
    let e : k.row-index < n = omega (arith, length-take {A = List Float}) in (
      c.row_scale-most.ensures.0,
      looped_more k.invariant.1 e
          (c.row_scale-most.ensures.1
          ∙ ap (λ (x : List Float). fold_to n (λ j m. max m (abs (word x j))) k.most) (get_or-take n c.args.matrix.now k.row-index [] e)),
    )

pub returns : goal.returns
unfolding scale_of
returns c = looped_done c.loop-row.invariant.1 (omega (arith, length-take {A = List Float}))
