-- `replay::is_due` meets its contract. Assumes nothing.
use mathlib.Core.Path.{◌∙◌}
use Rattle.replay.proofs.Laws.{due_ok}
use Rattle.replay.proofs.is_due.Goals as goal

pub returns : goal.returns
returns c = c.is_ok.ensures.value ∙ due_ok c.args.fit c.args.reply _ c.check_due.ensures
