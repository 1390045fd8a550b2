-- `subspace::sums` meets its contract: with the rows that are held the sums are those of the first i coordinates. Assumes nothing.
use mathlib.Core.Path.{◌∙◌, ap}
use Prim.Native.Nat.{◌*◌}
use Rattle.definition.specs.Vector.{fold_to}
use Rattle.definition.specs.Solve.{Matrix}
use Rattle.area.specs.Area.{view}
use Rattle.area.proofs.Laws.{fold_none, fold_more, fold_done}
use Rattle.subspace.specs.State.{add_rows}
use Rattle.subspace.proofs.Grid.{held_none, sums_are}
use Rattle.subspace.proofs.sums.Goals as goal

pub loop-i-init : goal.loop-i-init
unfolding fold_to
loop-i-init c = (rw (c.empty_sums-sums.ensures, c.new-batch.ensures) fold_none, rw c.new-batch.ensures (held_none _ _ _ c.empty_sums-sums.ensures))

pub loop-i-preserved : goal.loop-i-preserved
loop-i-preserved c =
    (fold_more c.loop-i.invariant.0 c.loop-i-test.true c.add_coordinate.ensures.1, c.add_coordinate.ensures.0)

pub returns : goal.returns
returns c =
    let g = c.args in
    c.add_rest.ensures
    ∙ ap (λ (p : Matrix). add_rows (2 * g.shape.pairs) p c.loop-i.sums) c.as_slice.ensures.value
    ∙ fold_done c.loop-i.invariant.0 c.loop-i-test.false
    ∙ sums_are g.shape g.shape.n (view g.area.now g.shape.n)
