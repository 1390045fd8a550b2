-- The numbers that code writes are those of the definition: each decimal is read as the double nearest to what is meant. Assumes nothing.
-- A constant or a literal stands in a goal by its word; `rw` with the constant's law, or `simp constants`, puts the definition's name there.
use Prim.Native.Nat.{ℕ}
use mathlib.Core.Path.{◌≡◌, refl}
use lib.Ieee.{mul, of_bits, round}
use Rattle.definition.specs.Number.{to_float, zero64, neg_zero, one64, two64, half64}
use Rattle.definition.specs.Number.{epsilon, root_epsilon, cube_root_epsilon, pivot_threshold, default_ftol, default_gtol, c1, c2, step_limit}

pub zero_is : to_float 0 ≡ zero64
unfolding of_bits
zero_is = refl

pub neg_zero_is : to_float 0x8000_0000_0000_0000 ≡ neg_zero
unfolding of_bits
neg_zero_is = refl

-- the word of 1
abbrev pub one_word : ℕ
one_word = 0x3ff0_0000_0000_0000

pub one_is : to_float one_word ≡ one64
unfolding of_bits
one_is = refl

pub two_is : to_float 0x4000_0000_0000_0000 ≡ two64
unfolding of_bits
two_is = refl

pub half_is : to_float 0x3fe0_0000_0000_0000 ≡ half64
unfolding of_bits
half_is = refl

pub epsilon_is : to_float 0x3cb0_0000_0000_0000 ≡ epsilon
unfolding of_bits
epsilon_is = refl

pub root_epsilon_is : to_float 0x3e50_0000_0000_0000 ≡ root_epsilon
unfolding of_bits
root_epsilon_is = refl

pub cube_root_epsilon_is : to_float 0x3ed9_65fe_a53d_6e3d ≡ cube_root_epsilon
unfolding of_bits round
cube_root_epsilon_is = refl

pub pivot_threshold_is : to_float 0x3d10_0000_0000_0000 ≡ pivot_threshold
unfolding of_bits mul round
pivot_threshold_is = refl

pub default_ftol_is : to_float 0x3e11_2e0b_e826_d695 ≡ default_ftol
unfolding of_bits round
default_ftol_is = refl

pub default_gtol_is : to_float 0x3ee4_f8b5_88e3_68f1 ≡ default_gtol
unfolding of_bits round
default_gtol_is = refl

pub c1_is : to_float 0x3f1a_36e2_eb1c_432d ≡ c1
unfolding of_bits round
c1_is = refl

pub c2_is : to_float 0x3fec_cccc_cccc_cccd ≡ c2
unfolding of_bits round
c2_is = refl

pub step_limit_is : to_float 0x4202_a05f_2000_0000 ≡ step_limit
unfolding of_bits round
step_limit_is = refl

pub ruleset constants = (
  zero_is,
  neg_zero_is,
  one_is,
  two_is,
  half_is,
  epsilon_is,
  root_epsilon_is,
  cube_root_epsilon_is,
  pivot_threshold_is,
  default_ftol_is,
  default_gtol_is,
  c1_is,
  c2_is,
  step_limit_is,
)
