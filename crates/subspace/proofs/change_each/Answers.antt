-- `subspace::change_each` meets its contract: the first i rows are done. Assumes nothing.
use native.Mathlib.Omega.{arith}
use Rattle.subspace.specs.State.{each}
use Rattle.subspace.proofs.Arrays.{changed_none, changed_more, changed_done}
use Rattle.subspace.proofs.change_each.Goals as goal

pub loop-i-init : goal.loop-i-init
loop-i-init g c = λ f k. changed_none (omega arith)

pub loop-i-preserved : goal.loop-i-preserved
loop-i-preserved g c = λ f k. changed_more (c.loop-i.invariant f k) (omega arith) (c.change_row.ensures f k)

pub returns : goal.returns
unfolding each
returns g c = λ f k. changed_done (c.loop-i.invariant f k) (omega arith)
