-- `cauchy::Path::pass` meets its contract: the segment is travelled, and every break at its end stops. Assumes nothing.
use Rattle.cauchy.proofs.Paths.{passes}
use Rattle.cauchy.proofs.Path.pass.Goals as goal

pub returns : goal.returns
returns c =
    passes c.requires.1 c.travel.ensures c.stop_all-reached.ensures
