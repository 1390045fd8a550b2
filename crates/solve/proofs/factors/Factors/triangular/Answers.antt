-- `Factors::triangular` meets its contract; in its loop the first k columns are done, and the order stays in range. Assumes nothing.
use native.Mathlib.Omega.{arith}
use Rattle.solve.proofs.Range.{range_set}
use Rattle.solve.proofs.Steps.{columns_none, columns_more, columns_stopped, columns_done}
use Rattle.solve.proofs.factors.Factors.triangular.Goals as goal

pub loop-k-init : goal.loop-k-init
loop-k-init c = let w = c.well_formed in (columns_none (search arith) (omega arith), λ m r. r)

pub returns-in_default : goal.returns-in_default
returns-in_default c = (columns_stopped _ c.loop-k.invariant.0 (omega arith) c.in_default.ensures, c.loop-k.invariant.1)

pub loop-k-preserved : goal.loop-k-preserved
loop-k-preserved c =
    let row = c.in-Some.ensures.within in (
      columns_more c.loop-k.invariant.0 (omega arith) (omega arith) c.in-Some.ensures,
      λ m r. range_set c.loop-k.self.order c.loop-k.k _ (omega (arith, row)) (c.loop-k.invariant.1 m r),
    )

pub returns : goal.returns
returns c = (columns_done _ c.loop-k.invariant.0 (omega arith), c.loop-k.invariant.1)
