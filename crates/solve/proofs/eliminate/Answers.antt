-- `solve::eliminate` meets its contract; in its loop the rows before i are done, and row k stays. Assumes nothing.
use mathlib.Core.Path.{refl, ◌∙◌}
use native.Mathlib.Omega.{arith}
use lib.Ieee.{of_bits}
use lib.ListN.{set}
use Rattle.definition.specs.Solve.{less_row}
use Rattle.solve.proofs.Steps.{ran_none, ran_more, ran_done, eliminates}
use Rattle.solve.proofs.eliminate.Goals as goal

pub loop-i-init : goal.loop-i-init
unfolding of_bits
loop-i-init c = (refl, ran_none (omega arith))

pub loop-i-preserved : goal.loop-i-preserved
loop-i-preserved c =
    let a = c.args in
    let k = c.loop-i in
    let after = c.less_pivot.ensures in (
      after.2 ∙ k.invariant.0,
      ran_more k.invariant.1 (omega arith)
          (λ j. ((after.1 ∙ (λ i. less_row a.n (after.0 i) k.matrix a.k k.i)) j, set k.multipliers k.i (after.0 j))),
    )

pub returns : goal.returns
returns c = eliminates (omega arith) (omega arith) (ran_done c.loop-i.invariant.1 (omega arith))
