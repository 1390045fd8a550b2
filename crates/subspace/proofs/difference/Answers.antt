-- `subspace::difference` meets its contract: the first i words are those of the difference. Assumes nothing.
use mathlib.Core.Path.{refl}
use native.Mathlib.Omega.{arith}
use lib.Ieee.{of_bits}
use Rattle.definition.specs.Problem.{most_coordinates}
use Rattle.subspace.proofs.Arrays.{filled_none, filled_more, filled_done}
use Rattle.subspace.proofs.difference.Goals as goal

pub loop-i-init : goal.loop-i-init
unfolding of_bits
loop-i-init c = filled_none most_coordinates _ refl (omega arith)

pub loop-i-preserved : goal.loop-i-preserved
loop-i-preserved c = filled_more c.loop-i.invariant (omega arith) refl

pub returns : goal.returns
unfolding of_bits
returns c = filled_done most_coordinates _ refl (omega arith) c.loop-i.invariant (omega arith)
