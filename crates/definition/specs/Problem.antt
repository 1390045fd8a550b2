-- The setup of a fit, its checks in their order, and the values that apply.
use Rattle.std.specs.Prelude.{ℕ, ◌+◌, ◌*◌, Bool, true, false, not, ◌||◌, List, eqb, ltb, length, Float}
use Rattle.std.specs.Prelude.{Option, None, Some}
use Rattle.std.specs.Float.Ieee as Ieee
use Rattle.std.specs.Float.Ieee.{is_nan}
use Rattle.std.specs.Float.Ieee.Scale.{finite}
use Rattle.definition.specs.Number.{zero64, infinity, neg_infinity, clamp, default_ftol, default_gtol}
use Rattle.definition.specs.Vector.{fold_to, tab, word}

-- `FiniteDifference`
pub data Scheme : Type 0 where
  forward central : Scheme

pub record Bounds : Type 0 where
  pub lower : List Float
  pub upper : List Float

-- `Problem`, `Common` and `LbfgsbOptions` in one
pub record Setup : Type 0 where
  pub x0 : List Float
  pub bounds : Option Bounds
  pub maxiter : Option ℕ
  pub maxfev : Option ℕ
  pub tol : Option Float
  pub ftol : Option Float
  pub gtol : Option Float
  pub maxcor : Option ℕ
  pub eps : Option Float
  pub scheme : Scheme

-- a number of document 01's table with two details, 0 where unnamed
pub record Refusal : Type 0 where
  pub number : ℕ
  pub first : ℕ
  pub second : ℕ

-- ---- checks: nothing, or the first refusal

abbrev pub Check : Type 0
Check = Option Refusal

abbrev pub refuse : ℕ → ℕ → ℕ → Check
refuse number a b = Some (record { number = number; first = a; second = b })

abbrev pub when : Bool → Check → Check
when true c = c
when false c = None

-- the first check that refuses
infixr 20 ◌then◌
abbrev pub ◌then◌ : Check → Check → Check
Some r then d = Some r
None then d = d

-- the check of index 0, 1, .. n - 1
abbrev pub each_index : ℕ → (ℕ → Check) → Check
each_index n check = fold_to n (λ i c. c then check i) None

-- a check of a value that is given
abbrev pub given : {A : Type 0} → (A → Check) → Option A → Check
given check None = None
given check (Some a) = check a

-- ---- the rows of the table

abbrev pub check_side : ℕ → List Float → Check
check_side n side =
    when (not (eqb (length side) n)) (refuse 3 n (length side))
    then each_index n (λ i. when (is_nan (word side i)) (refuse 4 i 0))

abbrev pub check_pair : Bounds → ℕ → Check
check_pair b i =
    when (Ieee.lt (word b.upper i) (word b.lower i)) (refuse 5 i 0)
    then when (Ieee.eq (word b.lower i) infinity || Ieee.eq (word b.upper i) neg_infinity) (refuse 6 i 0)

abbrev pub check_bounds : ℕ → Bounds → Check
check_bounds n b = check_side n b.lower then check_side n b.upper then each_index n (check_pair b)

-- `Problem::validate`
unfoldable pub check_problem : Setup → Check
check_problem s =
    when (eqb (length s.x0) 0) (refuse 1 0 0)
    then each_index (length s.x0) (λ i. when (not (finite (word s.x0 i))) (refuse 2 i 0))
    then given (check_bounds (length s.x0)) s.bounds

abbrev pub positive : ℕ → ℕ → Check
positive option k = when (eqb k 0) (refuse 7 option 0)

abbrev pub finite_positive : ℕ → Float → Check
finite_positive option v = when (not (finite v) || Ieee.le v zero64) (refuse 8 option 0)

abbrev pub finite_nonnegative : ℕ → Float → Check
finite_nonnegative option v = when (not (finite v) || Ieee.lt v zero64) (refuse 9 option 0)

-- `Common::validate`
unfoldable pub check_common : Setup → Check
check_common s = given (positive 1) s.maxiter then given (positive 2) s.maxfev then given (finite_positive 1) s.tol

-- `LbfgsbOptions::validate`
unfoldable pub check_options : Setup → Check
check_options s =
    given (finite_nonnegative 1) s.ftol
    then given (finite_nonnegative 2) s.gtol
    then given (positive 3) s.maxcor
    then given (finite_positive 2) s.eps

-- the added limits
abbrev pub most_coordinates : ℕ
most_coordinates = 64

abbrev pub most_pairs : ℕ
most_pairs = 16

abbrev pub most_budget : ℕ
most_budget = 1_000_000

abbrev pub at_most : ℕ → ℕ → ℕ → Check
at_most limit detail k = when (ltb limit k) (refuse 10 detail 0)

unfoldable pub check_limits : Setup → Check
check_limits s =
    at_most most_coordinates 1 (length s.x0)
    then given (at_most most_pairs 2) s.maxcor
    then given (at_most most_budget 3) s.maxiter
    then given (at_most most_budget 4) s.maxfev

unfoldable pub validate : Setup → Check
validate s = check_problem s then check_common s then check_options s then check_limits s

-- ---- what applies

abbrev pub or_else : {A : Type 0} → Option A → A → A
or_else (Some a) d = a
or_else None d = d

abbrev pub either : {A : Type 0} → Option A → Option A → Option A
either (Some a) d = Some a
either None d = d

abbrev pub dimension : Setup → ℕ
dimension s = length s.x0

-- `DEFAULT_BUDGET`, `DEFAULT_MAXCOR`
abbrev pub budget_of : Option ℕ → ℕ
budget_of k = or_else k 15_000

abbrev pub maxcor_of : Setup → ℕ
maxcor_of s = or_else s.maxcor 10

abbrev pub open_bounds : ℕ → Bounds
open_bounds n = record { lower = tab n (λ i. neg_infinity); upper = tab n (λ i. infinity) }

abbrev pub bounds_of : Setup → Bounds
bounds_of s = or_else s.bounds (open_bounds (dimension s))

-- what stays as it is for the whole fit
pub record Terms : Type 0 where
  pub n : ℕ
  pub bounds : Bounds
  pub maxcor : ℕ
  pub eps : Option Float
  pub scheme : Scheme

abbrev pub terms_of : Setup → Terms
terms_of s = record { n = dimension s; bounds = bounds_of s; maxcor = maxcor_of s; eps = s.eps; scheme = s.scheme }

-- the limits in force
pub record Limits : Type 0 where
  pub ftol : Float
  pub gtol : Float
  pub maxiter : ℕ
  pub maxfev : ℕ

abbrev pub limits_of : Setup → Limits
limits_of s = record {
  ftol = or_else (either s.ftol s.tol) default_ftol;
  gtol = or_else (either s.gtol s.tol) default_gtol;
  maxiter = budget_of s.maxiter;
  maxfev = budget_of s.maxfev;
}

-- x, brought into the box at coordinate i
abbrev pub in_box : Bounds → ℕ → Float → Float
in_box b i x = clamp x (word b.lower i) (word b.upper i)

-- `projected_start`, document 01's clipped start
unfoldable pub projected_start : Setup → List Float
projected_start s = tab (dimension s) (λ i. in_box (bounds_of s) i (word s.x0 i))

-- the words of a working area for n coordinates and m pairs
abbrev pub area_words : ℕ → ℕ → ℕ
area_words n m = n * (4 * m + 16) + 4 * m * m + 4 * m

abbrev pub area_needed : Setup → ℕ
area_needed s = area_words (dimension s) (maxcor_of s)
