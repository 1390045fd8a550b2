-- `trial::gradient_small` meets its contract. Assumes nothing.
use Rattle.definition.specs.Driver.{gradient_small}
use Rattle.trial.proofs.gradient_small.Goals as goal

pub returns : goal.returns
unfolding gradient_small
returns c = rw (c.projected_norm.ensures c.args.fit.value)
