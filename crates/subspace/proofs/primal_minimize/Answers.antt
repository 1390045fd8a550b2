-- `subspace::primal_minimize` meets its contract: where no coordinate is free the target is the Cauchy point. Assumes nothing.
use Rattle.subspace.proofs.Makes.{minimum_free, minimum_fixed}
use Rattle.subspace.proofs.primal_minimize.Goals as goal

pub returns-then-any_free : goal.returns-then-any_free
returns-then-any_free c =
    minimum_free _ _ _ _ _ _ c.any_free.ensures c.if-any_free.true c.minimize_free.ensures

pub returns : goal.returns
returns c =
    minimum_fixed _ _ _ _ _ c.any_free.ensures c.if-any_free.false c.copy.ensures
