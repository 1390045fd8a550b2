-- `area::put` meets its contract. Assumes nothing.
use Rattle.area.proofs.Laws.{view-set}
use Rattle.area.proofs.put.Goals as goal

pub returns : goal.returns
returns c = search view-set
