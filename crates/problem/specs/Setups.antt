-- The definition's setup, refusals and limits, read off the structs of the code.
use Rattle.std.specs.Prelude.{ℕ, Bool, true, false, not, List, [], length, Float}
use Rattle.std.specs.Prelude.{Option, None, Some, Result, Ok, Err}
use Rattle.std.specs.Float.Ieee.{is_nan}
use Rattle.std.specs.Float.Ieee.Scale.{finite}
use Rattle.definition.specs.Problem as P
use Rattle.definition.specs.Vector.{word}
use Rattle.problem.specs.declared.Scheme.{Scheme}
use Rattle.problem.specs.declared.Scheme.TheVariants.{Forward, Central}
use Rattle.problem.specs.declared.Options.{Options}
use Rattle.problem.specs.declared.Setup.{Setup}
use Rattle.problem.specs.declared.Limits.{Limits}
use Rattle.problem.specs.declared.PositiveCount.{PositiveCount}
use Rattle.problem.specs.declared.PositiveCount.TheVariants as C
use Rattle.problem.specs.declared.PositiveFloat.{PositiveFloat}
use Rattle.problem.specs.declared.PositiveFloat.TheVariants as F
use Rattle.problem.specs.declared.NonnegativeFloat.{NonnegativeFloat}
use Rattle.problem.specs.declared.NonnegativeFloat.TheVariants as N
use Rattle.problem.specs.declared.Limited.{Limited}
use Rattle.problem.specs.declared.Limited.TheVariants as L
use Rattle.problem.specs.declared.Refusal.{Refusal}
use Rattle.problem.specs.declared.Refusal.TheVariants as R

abbrev pub scheme_of : Scheme → P.Scheme
scheme_of Forward = P.Scheme.forward
scheme_of Central = P.Scheme.central

-- no box, and every option absent
abbrev pub no_options : Options
no_options = record {
  bounded = false;
  maxiter = None;
  maxfev = None;
  tol = None;
  ftol = None;
  gtol = None;
  maxcor = None;
  eps = None;
  scheme = Forward;
}

abbrev pub box_of : List Float → List Float → P.Bounds
box_of lower upper = record { lower = lower; upper = upper }

abbrev pub bounds_in : Bool → List Float → List Float → Option P.Bounds
bounds_in true lower upper = Some (box_of lower upper)
bounds_in false lower upper = None

-- the setup of options, start and bounds, which count only where the options say so
abbrev pub setup_in : Options → List Float → List Float → List Float → P.Setup
setup_in options x0 lower upper = record {
  x0 = x0;
  bounds = bounds_in options.bounded lower upper;
  maxiter = options.maxiter;
  maxfev = options.maxfev;
  tol = options.tol;
  ftol = options.ftol;
  gtol = options.gtol;
  maxcor = options.maxcor;
  eps = options.eps;
  scheme = scheme_of options.scheme;
}

-- the setup that options and vectors make
abbrev pub setup_of : Setup → P.Setup
setup_of setup = setup_in setup.options setup.x0.now setup.lower.now setup.upper.now

-- ---- refusals: each number, and the options among its details

abbrev pub count_detail : PositiveCount → ℕ
count_detail C.Maxiter = 1
count_detail C.Maxfev = 2
count_detail C.Maxcor = 3

abbrev pub positive_detail : PositiveFloat → ℕ
positive_detail F.Tol = 1
positive_detail F.Eps = 2

abbrev pub nonnegative_detail : NonnegativeFloat → ℕ
nonnegative_detail N.Ftol = 1
nonnegative_detail N.Gtol = 2

abbrev pub limited_detail : Limited → ℕ
limited_detail L.Coordinates = 1
limited_detail L.Maxcor = 2
limited_detail L.Maxiter = 3
limited_detail L.Maxfev = 4

-- a refusal by its number and two details, 0 where it has none
abbrev pub numbered : ℕ → ℕ → ℕ → P.Refusal
numbered number first second = record { number = number; first = first; second = second }

abbrev pub refusal_of : Refusal → P.Refusal
refusal_of R.EmptyX0 = numbered 1 0 0
refusal_of (R.NonfiniteX0 i) = numbered 2 i 0
refusal_of (R.BoundsLength expected found) = numbered 3 expected found
refusal_of (R.NanBound i) = numbered 4 i 0
refusal_of (R.BoundsOrder i) = numbered 5 i 0
refusal_of (R.InfeasibleBound i) = numbered 6 i 0
refusal_of (R.NotPositive option) = numbered 7 (count_detail option) 0
refusal_of (R.NotFinitePositive option) = numbered 8 (positive_detail option) 0
refusal_of (R.NotFiniteNonnegative option) = numbered 9 (nonnegative_detail option) 0
refusal_of (R.OverLimit counted) = numbered 10 (limited_detail counted) 0
refusal_of (R.AreaShort needed) = numbered 11 needed 0
refusal_of R.LogShort = numbered 12 0 0
refusal_of R.NotDue = numbered 13 0 0
refusal_of (R.GradientLength expected found) = numbered 14 expected found
refusal_of R.NoReport = numbered 15 0 0
refusal_of R.TooFewReplies = numbered 16 0 0
refusal_of R.Malformed = numbered 17 0 0
refusal_of R.SumsDiffer = numbered 18 0 0
refusal_of (R.OutputShort needed) = numbered 19 needed 0

abbrev pub check_of : Result Unit Refusal → P.Check
check_of (Ok done) = None
check_of (Err refusal) = Some (refusal_of refusal)

-- the checks of a whole vector, index by index
abbrev pub each_finite : List Float → P.Check
each_finite x0 = P.each_index (length x0) (λ i. P.when (not (finite (word x0 i))) (P.refuse 2 i 0))

abbrev pub each_number : List Float → P.Check
each_number side = P.each_index (length side) (λ i. P.when (is_nan (word side i)) (P.refuse 4 i 0))

abbrev pub each_pair : P.Bounds → P.Check
each_pair bounds = P.each_index (length bounds.lower) (P.check_pair bounds)

abbrev pub limits_of : Limits → P.Limits
limits_of limits = record { ftol = limits.ftol; gtol = limits.gtol; maxiter = limits.maxiter; maxfev = limits.maxfev }

-- The limits in force and the number of pairs do not turn on the vectors: `limits_in options` is `P.limits_of (setup_in options x0 lower upper)` for any,
-- by computation.
abbrev pub limits_in : Options → P.Limits
limits_in options = P.limits_of (setup_in options [] [] [])

abbrev pub places_in : Options → ℕ
places_in options = P.maxcor_of (setup_in options [] [] [])
