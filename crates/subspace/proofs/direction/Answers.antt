-- `subspace::direction` meets its contract: the end that is chosen has n words, and is handed on. Assumes nothing.
use lib.Ieee as Ieee
use Rattle.definition.specs.Number.{zero64}
use Rattle.subspace.proofs.Ends.{direction_is}
use Rattle.subspace.proofs.direction.Goals as goal

pub returns : goal.returns
returns c =
    direction_is (Ieee.le zero64 c.args.slope) c.args.area.now c.args.n c.requires.0 c.end.ensures c.difference.ensures
