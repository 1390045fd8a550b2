-- `subspace::corrections` meets its contract: the first k columns are added. Assumes nothing.
use mathlib.Core.Path.{refl, ◌∙◌}
use native.Mathlib.Omega.{arith}
use lib.Seq.{get_or-take}
use lib.Ieee.{nan}
use Rattle.float.proofs.Constants.{neg_zero_is}
use Rattle.compact.proofs.Laws.{vector_room}
use Rattle.subspace.proofs.Laws.{added_none, added_more, added_done}
use Rattle.subspace.proofs.corrections.Goals as goal

pub loop-column-init : goal.loop-column-init
loop-column-init c = (added_none _ (rw neg_zero_is at c.fill.ensures), refl)

pub add_column-requires : goal.add_column-requires
add_column-requires c =
    let s = rw (← c.fill.auto.area, ← c.loop-column.invariant.1) at c.requires.0 in
    (omega (arith, vector_room 15 s (omega arith)), vector_room _ s (omega arith))

pub loop-column-preserved : goal.loop-column-preserved
loop-column-preserved c =
    let r = c.loop-column.invariant in
    let weight = get_or-take _ c.args.weights c.loop-column.column nan (omega arith) in
    (added_more r.0 (omega arith) _ c.column_slot.ensures weight c.add_column.ensures, c.add_column.auto.area ∙ r.1)

pub returns : goal.returns
returns c =
    added_done c.requires.1 (rw neg_zero_is at c.fill.ensures) c.loop-column.invariant.0 (omega arith)
