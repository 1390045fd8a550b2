-- `subspace::gather` meets its contract: the first j words are gathered. Assumes nothing.
use mathlib.Core.Path.{refl, ap, ◌∙◌}
use native.Mathlib.Omega.{arith}
use lib.Ieee.{of_bits}
use Rattle.definition.specs.Compact.{padded}
use Rattle.area.specs.Area.{words_at}
use Rattle.compact.proofs.Laws.{vector_room}
use Rattle.subspace.proofs.Arrays.{filled_none, filled_more, filled_done}
use Rattle.subspace.proofs.gather.Goals as goal

pub loop-j-init : goal.loop-j-init
unfolding of_bits
loop-j-init c = filled_none 32 _ refl (omega arith)

pub get-requires : goal.get-requires
get-requires c = (vector_room _ c.requires.0 (omega arith), omega arith)

pub loop-j-preserved : goal.loop-j-preserved
loop-j-preserved c =
    let a = c.args in
    filled_more c.loop-j.invariant (omega arith)
    (c.get.ensures ∙ ap (words_at a.area.now a.shape.n a.i) c.column_slot.ensures)

pub returns : goal.returns
unfolding of_bits padded
returns c = filled_done 32 _ refl (omega arith) c.loop-j.invariant (omega arith)
