-- `float::next_up` meets its contract. Assumes nothing.
use mathlib.Core.Path.{◌∙◌}
use Rattle.float.proofs.Laws.{up_is}
use Rattle.float.proofs.next_up.Goals as goal

pub returns : goal.returns
returns c = c.next_up.ensures ∙ up_is c.args.x c.well_formed.0.1
