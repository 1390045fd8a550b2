-- `question::copy_out` meets its contract: the vector's words stand in front. Assumes nothing.
use Rattle.question.proofs.Laws.{copied}
use Rattle.question.proofs.copy_out.Goals as goal

pub returns : goal.returns
returns c = copied _ _ _ _ c.copy_from_slice.ensures.after c.requires.0
