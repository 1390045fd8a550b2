-- `float::next_down` meets its contract. Assumes nothing.
use mathlib.Core.Path.{◌∙◌}
use Rattle.float.proofs.Laws.{down_is}
use Rattle.float.proofs.next_down.Goals as goal

pub returns : goal.returns
returns c = c.next_down.ensures ∙ down_is c.args.x c.well_formed.0.1
