-- `cauchy::Path::begin` meets its contract: the three vectors of the path are made. Assumes nothing.
use mathlib.Core.Path.{refl}
use lib.Ieee.{of_bits}
use Rattle.float.proofs.Constants.{zero_is}
use Rattle.cauchy.proofs.Paths.{begins}
use Rattle.cauchy.proofs.Path.begin.Goals as goal

pub returns : goal.returns
unfolding of_bits
returns c =
    rw zero_is (begins _ _ _ c.set_velocity.ensures (rw zero_is at c.fill.ensures) refl c.fill-2.ensures)
