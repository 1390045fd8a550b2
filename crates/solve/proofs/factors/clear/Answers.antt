-- `factors::clear` meets its contract; in its loop the places before i are done, and place k stays. Assumes nothing.
use mathlib.Core.Path.{sym, ap, ◌∙◌}
use native.Mathlib.Omega.{arith}
use lib.Ieee.{Float, nan}
use lib.ListN.{set}
use lib.Seq.{get_or-set_other}
use Rattle.definition.specs.Number.{minus, times}
use Rattle.definition.specs.Vector.{word}
use Rattle.solve.proofs.Steps.{ran_more}
use Rattle.solve.proofs.factors.clear.Goals as goal

pub loop-i-preserved : goal.loop-i-preserved
loop-i-preserved c =
    let a = c.args in
    let x = c.loop-i.x in
    let i = c.loop-i.i in (
      c.loop-i.invariant.0 ∙ sym (get_or-set_other x i a.k _ nan (λ q. omega arith)),
      ran_more c.loop-i.invariant.1 (omega arith)
          (ap (λ (w : Float). set x i (minus (word x i) (times (word a.multipliers.now i) w))) c.loop-i.invariant.0),
    )
