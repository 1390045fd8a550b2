-- `subspace::set_direction` meets its contract: the array that is stored is the direction to the end that the slope chooses. Assumes nothing.
use Rattle.subspace.proofs.Ends.{directs}
use Rattle.subspace.proofs.set_direction.Goals as goal

pub returns : goal.returns
returns c =
    directs _ _ _ c.difference.ensures c.dot-slope.ensures c.direction-direction.ensures c.store.ensures
