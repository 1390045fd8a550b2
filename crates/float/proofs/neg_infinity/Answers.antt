-- `float::neg_infinity` meets its contract: `f64::NEG_INFINITY` is -1 / 0, by computation. Assumes nothing.
use mathlib.Core.Path.{refl}
use lib.Ieee.{of_bits, neg, div}
use Rattle.float.proofs.neg_infinity.Goals as goal

pub returns : goal.returns
unfolding of_bits neg div
returns c = refl
