-- `cauchy::Path::stop` meets its contract: the bound that is met, and three stores. Assumes nothing.
use mathlib.Core.Path.{refl}
use Rattle.float.proofs.Constants.{zero_is}
use Rattle.cauchy.proofs.Paths.{stops}
use Rattle.cauchy.proofs.Path.stop.Goals as goal

pub returns : goal.returns
returns c =
    stops _ _ _ _ c.requires.1 c.bound_met-bound.ensures refl (rw zero_is at c.put.ensures)
    c.put-2.ensures c.put-3.ensures
