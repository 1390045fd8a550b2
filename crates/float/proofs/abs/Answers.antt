-- `float::abs` meets its contract. Assumes nothing.
use mathlib.Core.Path.{◌∙◌}
use Rattle.float.proofs.Laws.{abs_is}
use Rattle.float.proofs.abs.Goals as goal

pub returns : goal.returns
returns c = c.abs.ensures.value ∙ abs_is c.args.x
