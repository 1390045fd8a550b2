-- `subspace::reduced_right` meets its contract: the first i products are made, from the columns as they stand. Assumes nothing.
use mathlib.Core.Path.{refl, ◌∙◌}
use native.Mathlib.Omega.{arith}
use lib.Ieee.{of_bits}
use Rattle.definition.specs.Compact.{padded}
use Rattle.compact.proofs.Laws.{pairs_count, vector_room}
use Rattle.subspace.proofs.Arrays.{filled_none, filled_more, filled_done}
use Rattle.subspace.proofs.Laws.{right_is}
use Rattle.subspace.proofs.reduced_right.Goals as goal

pub loop-i-init : goal.loop-i-init
unfolding of_bits
loop-i-init c = filled_none 32 _ refl (omega arith)

pub free_sum-requires : goal.free_sum-requires
free_sum-requires c =
    let s = c.requires.0 in
    (omega arith, vector_room _ s (omega arith), vector_room _ s (omega arith))

pub loop-i-preserved : goal.loop-i-preserved
loop-i-preserved c =
    filled_more c.loop-i.invariant (omega arith)
    (c.free_sum.ensures ∙ right_is _ _ c.requires.1 (omega arith) c.column_slot.ensures)

pub returns : goal.returns
unfolding of_bits padded
returns c = rw pairs_count (filled_done 32 _ refl (omega arith) c.loop-i.invariant (omega arith))
