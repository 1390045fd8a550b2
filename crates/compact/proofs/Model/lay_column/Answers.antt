-- `compact::Model::lay_column` meets its contract, by the column's half. Assumes nothing.
use native.Mathlib.Omega.{arith}
use Rattle.compact.proofs.Laws.{vector_room}
use Rattle.compact.proofs.Columns.{y_laid, s_laid}
use Rattle.compact.proofs.Model.lay_column.Goals as goal

pub copy-requires : goal.copy-requires
copy-requires c =
    (vector_room _ c.requires.0 (omega arith), c.pair_slot-slot.ensures.second _ c.requires.0)

pub scale-requires : goal.scale-requires
scale-requires c =
    (vector_room _ c.requires.0 (omega arith), c.pair_slot-slot-else-column-shape.ensures.first _ c.requires.0)

pub returns-then-column-shape : goal.returns-then-column-shape
returns-then-column-shape c =
    y_laid _ _ _ _ _ _ _ c.if-column-shape.true c.requires.0 c.pair_slot-slot.ensures c.column_slot-to.ensures c.copy.ensures

pub returns-else-column-shape : goal.returns-else-column-shape
returns-else-column-shape c =
    s_laid _ _ _ _ _ _ _ c.if-column-shape.false c.pair_slot-slot-else-column-shape.ensures c.column_slot-to.ensures c.scale.ensures
