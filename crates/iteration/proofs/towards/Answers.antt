-- `iteration::towards` meets its contract: the direction stands in its vector, and the search goes along it. Assumes nothing.
use Rattle.iteration.proofs.Laws.{directed_along}
use Rattle.iteration.proofs.towards.Goals as goal

pub returns : goal.returns
returns c = directed_along c.set_direction.ensures c.search_along.ensures
