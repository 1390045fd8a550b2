-- `cauchy::Breaks::insert` meets its contract: the insertion from behind is the definition's. Assumes nothing.
use Rattle.cauchy.proofs.Order.{inserts}
use Rattle.cauchy.proofs.Breaks.insert.Goals as goal

pub returns : goal.returns
returns c = inserts c.requires c.insert_in.ensures
