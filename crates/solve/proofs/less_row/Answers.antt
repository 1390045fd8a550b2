-- `solve::less_row` meets its contract; in its loop the columns before j are done, and row k stays. Assumes nothing.
use mathlib.Core.Path.{sym, ap, ◌∙◌}
use mathlib.Core.List.{List, []}
use native.Mathlib.Omega.{arith}
use lib.Ieee.{Float}
use lib.Seq.{get_or-set_other}
use Rattle.definition.specs.Number.{minus, times}
use Rattle.definition.specs.Vector.{word}
use Rattle.definition.specs.Solve.{less_row, entry, put}
use Rattle.solve.proofs.Steps.{ran_none, ran_more, ran_done}
use Rattle.solve.proofs.less_row.Goals as goal

pub loop-j-init : goal.loop-j-init
loop-j-init c = (c.requires.3, ran_none (omega arith))

pub loop-j-preserved : goal.loop-j-preserved
loop-j-preserved c =
    let a = c.args in
    let t = c.loop-j.matrix in
    let j = c.loop-j.j in (
      get_or-set_other t a.i a.k _ [] (λ q. omega arith) ∙ c.loop-j.invariant.0,
      ran_more c.loop-j.invariant.1 (omega arith)
          (ap (λ (q : List Float). put t a.i j (minus (entry t a.i j) (times a.multiplier (word q j)))) (sym c.loop-j.invariant.0)),
    )

pub returns : goal.returns
unfolding less_row
returns c = (ran_done c.loop-j.invariant.1 (omega arith), c.loop-j.invariant.0 ∙ sym c.requires.3)
