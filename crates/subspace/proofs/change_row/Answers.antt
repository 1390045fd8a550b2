-- `subspace::change_row` meets its contract: the first j entries are done. Assumes nothing.
use native.Mathlib.Omega.{arith}
use Rattle.subspace.specs.State.{row_each}
use Rattle.subspace.proofs.Arrays.{changed_none, changed_more, changed_done}
use Rattle.subspace.proofs.change_row.Goals as goal

pub loop-j-init : goal.loop-j-init
loop-j-init g c = λ f k. changed_none (omega arith)

pub loop-j-preserved : goal.loop-j-preserved
loop-j-preserved g c = λ f k. changed_more (c.loop-j.invariant f k) (omega arith) (k _ _ _ _ (omega arith) (omega arith) c.change.ensures)

pub returns : goal.returns
unfolding row_each
returns g c = λ f k. changed_done (c.loop-j.invariant f k) (omega arith)
