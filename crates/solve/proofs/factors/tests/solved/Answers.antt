-- `factors::tests::solved` meets its contract: factored, and solved with the factors. Assumes nothing.
use mathlib.Core.Path.{◌∙◌}
use Rattle.solve.proofs.Steps.{factors_solve}
use Rattle.solve.proofs.factors.tests.solved.Goals as goal

pub returns : goal.returns
returns c = c.solve.ensures ∙ factors_solve _ c.factor.ensures.0
