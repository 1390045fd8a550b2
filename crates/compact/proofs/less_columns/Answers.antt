-- `compact::less_columns` meets its contract: vector p has lost the first k columns. Assumes nothing.
use mathlib.Core.Path.{refl, ◌∙◌}
use Prim.Native.Nat.{◌*◌, ◌<◌}
use native.Mathlib.Omega.{arith}
use lib.Seq.{length-take-le, get_or-take}
use lib.Ieee.{nan}
use Rattle.area.proofs.Laws.{length-view}
use Rattle.compact.proofs.Laws.{vector_room}
use Rattle.compact.proofs.Columns.{lessened_none, lessened_more, lessened_done}
use Rattle.compact.proofs.less_columns.Goals as goal

pub loop-column-init : goal.loop-column-init
loop-column-init c =
    let s = rw (← c.area-1.given) at c.requires.0 in
    (lessened_none (length-view _ _ _ (vector_room _ s (omega arith))), refl)

pub less-requires : goal.less-requires
less-requires c =
    let s = rw (← c.area-1.given, ← c.loop-column.invariant.1) at c.requires.0 in
    let count = length-take-le (2 * c.args.model.now.shape.pairs) c.args.weights (omega arith) in
    (vector_room _ s (omega (arith, count)), vector_room _ s (omega arith))

pub loop-column-preserved : goal.loop-column-preserved
loop-column-preserved c =
    let h = c.args.model.now.shape in
    let weights = c.args.weights in
    let count = length-take-le (2 * h.pairs) weights (omega arith) in
    let below : c.loop-column.column < 2 * h.pairs = omega (arith, count) in
    let weight = get_or-take (2 * h.pairs) weights c.loop-column.column nan below in
    let next = lessened_more c.loop-column.invariant.0 c.requires.2 below c.column_slot.ensures weight c.less.ensures in
    (next, c.area-in-loop-column-1.given ∙ c.loop-column.invariant.1)

pub returns : goal.returns
returns c =
    let count = length-take-le (2 * c.args.model.now.shape.pairs) c.args.weights (omega arith) in
    lessened_done _ c.requires.1 c.requires.2 c.scale.ensures c.loop-column.invariant.0 (omega (arith, count))
