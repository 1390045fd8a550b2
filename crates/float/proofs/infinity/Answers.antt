-- `float::infinity` meets its contract: `f64::INFINITY` is 1 / 0, by computation. Assumes nothing.
use mathlib.Core.Path.{refl}
use lib.Ieee.{of_bits, div}
use Rattle.float.proofs.infinity.Goals as goal

pub returns : goal.returns
unfolding of_bits div
returns c = refl
