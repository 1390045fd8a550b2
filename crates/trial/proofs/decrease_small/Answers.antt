-- `trial::decrease_small` meets its contract. Assumes nothing.
use Rattle.definition.specs.Driver.{decrease_small}
use Rattle.float.proofs.Constants.{one_is}
use Rattle.trial.proofs.decrease_small.Goals as goal

pub returns : goal.returns
unfolding decrease_small
returns c =
    λ v.
    rw (c.max-scale.ensures, c.max.ensures, c.abs-2.ensures, c.abs.ensures, one_is)
