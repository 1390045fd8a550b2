-- `iteration::search_along` meets its contract: it ends, or tries the first step. Assumes nothing.
use Rattle.fit.proofs.Laws.{still, steps_as}
use Rattle.iteration.proofs.Branches.{along, along_failed}
use Rattle.iteration.proofs.search_along.Goals as goal

pub returns-in_default : goal.returns-in_default
returns-in_default c =
    still c.ended.ensures (along_failed _ c.begin_search.result c.in_default.not-Some c.begin_search.ensures.trial)

pub returns : goal.returns
returns c =
    steps_as c.try_step.ensures (along _ c.begin_search.result _ c.begin_search.ensures.trial c.in-Some.is)
