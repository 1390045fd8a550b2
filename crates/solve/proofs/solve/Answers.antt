-- `solve::solve` meets its contract: factored, and solved with the factors. Assumes nothing.
use mathlib.Core.Path.{◌∙◌}
use Rattle.solve.proofs.Steps.{factors_solve}
use Rattle.solve.proofs.solve.Goals as goal

pub returns : goal.returns
returns c = c.solve_in_range.ensures ∙ factors_solve _ c.factor.ensures.0
