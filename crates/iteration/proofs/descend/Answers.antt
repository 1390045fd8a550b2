-- `iteration::descend` meets its contract: to the ends of the model, else without the pairs if there are any. Assumes nothing.
use Rattle.iteration.proofs.Laws.{descend_towards, descend_ends, descend_again}
use Rattle.iteration.proofs.descend.Goals as goal

pub returns-then-model : goal.returns-then-model
returns-then-model c =
    descend_towards c.requires.0 c.model.ensures c.if-model.true c.towards.ensures

pub returns-then-fit-eq0 : goal.returns-then-fit-eq0
returns-then-fit-eq0 c =
    descend_ends c.requires.0 c.model.ensures c.if-model.false c.if-fit-eq0.true c.ended.ensures

pub returns : goal.returns
returns c =
    descend_again c.requires.0 c.model.ensures c.if-model.false c.if-fit-eq0.false c.without_pairs.ensures
