-- `compact::right_side` meets its contract: the first k products are made, from the columns as they stand. Assumes nothing.
use mathlib.Core.Path.{◌∙◌}
use native.Mathlib.Omega.{arith}
use lib.Ieee.{of_bits}
use Rattle.area.specs.Area.{view}
use Rattle.compact.proofs.Laws.{filling_none, filling_below, filling_more, filling_done, pairs_count, vector_room}
use Rattle.compact.proofs.Columns.{laid_dot}
use Rattle.compact.proofs.right_side.Goals as goal

pub loop-column-init : goal.loop-column-init
unfolding of_bits
loop-column-init c = filling_none (omega arith)

pub dot-requires : goal.dot-requires
dot-requires c =
    let s = c.requires.0 in
    let below = filling_below c.loop-column.invariant c.loop-column.auto.place-items c.loop-column-test.true in
    (vector_room _ s (omega arith), vector_room _ s (omega arith))

pub loop-column-preserved : goal.loop-column-preserved
loop-column-preserved c =
    let a = c.args in
    let below = filling_below c.loop-column.invariant c.loop-column.auto.place-items c.loop-column-test.true in
    filling_more c.loop-column.invariant c.loop-column.auto.place-items c.loop-column-test.true
    (c.dot.ensures ∙ laid_dot c.requires.1 _ _ (view a.area.now a.model.now.shape.n a.vector) below c.column_slot.ensures)

pub returns : goal.returns
unfolding of_bits
returns c = rw pairs_count (filling_done c.loop-column.invariant c.loop-column.auto.place-items c.loop-column-test.false)
