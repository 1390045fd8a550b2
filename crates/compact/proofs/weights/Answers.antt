-- `compact::weights` meets its contract: no pair, no weight, and otherwise the block's system is solved. Assumes nothing.
use mathlib.Core.Path.{◌∙◌}
use lib.Ieee.{of_bits}
use Rattle.compact.proofs.Columns.{weighed, unweighed}
use Rattle.compact.proofs.weights.Goals as goal

pub returns-then-model-eq0 : goal.returns-then-model-eq0
unfolding of_bits
returns-then-model-eq0 c = unweighed _ _ _ _ c.if-model-eq0.true

pub returns : goal.returns
returns c = c.solve_in_range.ensures ∙ weighed _ _ _ _ c.if-model-eq0.false c.requires.1 c.right_side-right.ensures
