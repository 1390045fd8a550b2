-- `compact::Model::lay_columns` meets its contract: the first k columns are laid out, and the pairs stay. Assumes nothing.
use mathlib.Core.Path.{◌∙◌}
use native.Mathlib.Omega.{arith}
use Rattle.compact.proofs.Columns.{laying_more, laying_done}
use Rattle.compact.proofs.Model.lay_columns.Goals as goal

pub loop-column-preserved : goal.loop-column-preserved
loop-column-preserved c = (
  laying_more c.requires c.loop-column.invariant.0 (omega arith) c.lay_column.ensures,
  c.area-1.given ∙ c.loop-column.invariant.1,
)

pub returns : goal.returns
returns c = laying_done c.requires c.loop-column.invariant.0 (omega arith)
