-- The constants are what their names say: the step above 1, its square root, the float nearest to its cube root, 64 times it. By computation. Assumes nothing.
use Prim.Native.Nat.{◌+◌, ◌-◌, ◌*◌, ◌^◌}
use mathlib.Core.Path.{◌≡◌, refl}
use mathlib.Core.Bool.{true, false, ◌&&◌}
use lib.Dec.{ltb}
use lib.IntN.{negsuc}
use lib.Ieee.{fin, is_nan, round, mul, sub, of_bits, to_bits}
use lib.Ieee.Exact.{HasValue}
use Rattle.definition.specs.Number.{minus, times, next_up, zero64, one64, two_to_minus}
use Rattle.definition.specs.Number.{epsilon, root_epsilon, cube_root_digits, cube_root_epsilon, pivot_threshold}

-- up from 1 and from 0
pub next_up_one : next_up one64 ≡ fin false (2 ^ 52 + 1) (negsuc 51)
unfolding is_nan of_bits to_bits
next_up_one = refl

pub next_up_zero : next_up zero64 ≡ two_to_minus 1074
unfolding is_nan of_bits to_bits
next_up_zero = refl

pub epsilon_above_one : minus (next_up one64) one64 ≡ epsilon
unfolding is_nan of_bits to_bits sub round
epsilon_above_one = refl

-- 2 ^ -26 squared is 2 ^ -52, as a product of floats and exactly: 1 / 2 ^ 26 squared.
pub root_squared : times root_epsilon root_epsilon ≡ epsilon
unfolding mul round
root_squared = refl

pub root_exact : HasValue root_epsilon false 1 (2 ^ 26) × HasValue epsilon false (1 * 1) (2 ^ 26 * 2 ^ 26)
root_exact = ((refl, refl), (refl, refl))

-- The exact cube root of 2 ^ -52, in units of 2 ^ -70, is the cube root of 2 ^ 158.
-- It lies less than half a unit from `cube_root_digits`, both ways: cubes of twice the numbers. The digits are 53, so the unit is the double's own.
pub cube_root_nearest :
    (ltb ((2 * cube_root_digits - 1) ^ 3) (8 * 2 ^ 158) && ltb (8 * 2 ^ 158) ((2 * cube_root_digits + 1) ^ 3) ≡ true)
    × (ltb (2 ^ 52) cube_root_digits && ltb cube_root_digits (2 ^ 53) ≡ true)
    × (cube_root_epsilon ≡ fin false cube_root_digits (negsuc 69))
unfolding round
cube_root_nearest = (refl, refl, refl)

-- 64 times 2 ^ -52 is 2 ^ -46: the product is exact
pub pivot_threshold_exact : pivot_threshold ≡ two_to_minus 46
unfolding mul round
pivot_threshold_exact = refl
