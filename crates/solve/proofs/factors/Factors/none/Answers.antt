-- `Factors::none` meets its contract: place 0 is one of the 32. Assumes nothing.
use mathlib.Core.Path.{refl}
use Rattle.solve.proofs.Steps.{zeros_within}
use Rattle.solve.proofs.factors.Factors.none.Goals as goal

pub returns : goal.returns
returns c = (refl, λ m k _. zeros_within 32 k)
