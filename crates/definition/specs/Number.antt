-- Numbers: binary64 as the Rust uses it, and its named constants. Each operation rounds once; there is one NaN.
use Rattle.std.specs.Prelude.{ℕ, ◌+◌, ◌-◌, ◌%◌, ◌^◌, Bool, true, false, cond, eqb, ltb, leb, pos, neg_ℤ, Float}
use Rattle.std.specs.Float.Ieee as Ieee
use Rattle.std.specs.Float.{nan, inf, fin, binary64}
use Rattle.std.specs.Float.Ieee.{is_nan, of_bits, to_bits, round}

abbrev pub plus : Float → Float → Float
plus a b = Ieee.add binary64 a b

abbrev pub minus : Float → Float → Float
minus a b = Ieee.sub binary64 a b

abbrev pub times : Float → Float → Float
times a b = Ieee.mul binary64 a b

abbrev pub over : Float → Float → Float
over a b = Ieee.div binary64 a b

abbrev pub abs : Float → Float
abs nan = nan
abs (inf s) = inf false
abs (fin s m e) = fin false m e

-- A NaN is passed over; of two equal values the first is taken (document 01).
abbrev pub min : Float → Float → Float
min a b = cond (is_nan a) b (cond (Ieee.lt b a) b a)

abbrev pub max : Float → Float → Float
max a b = cond (is_nan a) b (cond (Ieee.lt a b) b a)

abbrev pub clamp : Float → Float → Float → Float
clamp x low high = cond (Ieee.lt x low) low (cond (Ieee.lt high x) high x)

-- ---- words: the bits of a float, and the order and neighbours that they give

abbrev pub to_float : ℕ → Float
to_float w = of_bits binary64 w

abbrev pub to_word : Float → ℕ
to_word x = to_bits binary64 x

abbrev pub sign_bit : ℕ
sign_bit = 0x8000_0000_0000_0000

-- the words of the infinities; above either, up to the sign's bit, stand the words of NaNs
abbrev pub infinity_word : ℕ
infinity_word = 0x7FF0_0000_0000_0000

abbrev pub neg_infinity_word : ℕ
neg_infinity_word = sign_bit + infinity_word

-- `total_cmp`: a negative pattern counts down, a positive one up.
abbrev pub total_key : Float → ℕ
total_key x = cond (ltb (to_word x) sign_bit) (to_word x + sign_bit) (0xFFFF_FFFF_FFFF_FFFF - to_word x)

-- a stands before b, or level with it
abbrev pub total_le : Float → Float → Bool
total_le a b = leb (total_key a) (total_key b)

-- the order of magnitudes that `total_cmp` gives: a NaN is the largest
abbrev pub magnitude_le : Float → Float → Bool
magnitude_le a b = leb (to_word (abs a)) (to_word (abs b))

-- An infinity stays; either zero goes to the least value above zero; a positive pattern counts up, a negative one down.
abbrev pub up_bits : ℕ → ℕ
up_bits b = cond (eqb b infinity_word) b (cond (eqb (b % sign_bit) 0) 1 (cond (ltb b sign_bit) (b + 1) (b - 1)))

abbrev pub down_bits : ℕ → ℕ
down_bits b = cond (eqb b neg_infinity_word) b (cond (eqb (b % sign_bit) 0) (sign_bit + 1) (cond (ltb b sign_bit) (b - 1) (b + 1)))

abbrev pub next_up : Float → Float
next_up x = cond (is_nan x) x (to_float (up_bits (to_word x)))

abbrev pub next_down : Float → Float
next_down x = cond (is_nan x) x (to_float (down_bits (to_word x)))

-- ---- constants

-- 2 ^ k and 2 ^ -k
abbrev pub two_to : ℕ → Float
two_to k = fin false 1 (pos k)

abbrev pub two_to_minus : ℕ → Float
two_to_minus k = fin false 1 (neg_ℤ (pos k))

abbrev pub zero64 : Float
zero64 = fin false 0 (pos 0)

-- where a sum starts
abbrev pub neg_zero : Float
neg_zero = fin true 0 (pos 0)

abbrev pub one64 : Float
one64 = two_to 0

abbrev pub two64 : Float
two64 = two_to 1

abbrev pub half64 : Float
half64 = two_to_minus 1

abbrev pub infinity : Float
infinity = inf false

abbrev pub neg_infinity : Float
neg_infinity = inf true

-- `EPSILON`
abbrev pub epsilon : Float
epsilon = two_to_minus 52

-- its square root
abbrev pub root_epsilon : Float
root_epsilon = two_to_minus 26

-- The double nearest to its cube root, 2 ^ -18 times the cube root of 4: this many of 2 ^ -70.
abbrev pub cube_root_digits : ℕ
cube_root_digits = 7149018786131517

abbrev pub cube_root_epsilon : Float
cube_root_epsilon = round binary64 false cube_root_digits (2 ^ 70)

-- 64 times `EPSILON`, exactly: what a pivot must exceed, in units of the matrix's scale
abbrev pub pivot_threshold : Float
pivot_threshold = times (two_to 6) epsilon

-- `DEFAULT_FTOL`, 1e-9, and `DEFAULT_GTOL`, 1e-5
abbrev pub default_ftol : Float
default_ftol = round binary64 false 1 (10 ^ 9)

abbrev pub default_gtol : Float
default_gtol = round binary64 false 1 (10 ^ 5)

-- `C1`, 1e-4, the share of the slope that a step must gain, and `C2`, 0.9, the share that it may leave
abbrev pub c1 : Float
c1 = round binary64 false 1 (10 ^ 4)

abbrev pub c2 : Float
c2 = round binary64 false 9 10

-- where the step limit starts
abbrev pub most_step : ℕ
most_step = 10 ^ 10

abbrev pub step_limit : Float
step_limit = round binary64 false most_step 1
