-- The elimination apart from its right side: what is left of the matrix, and the solution that it gives with any right side.
use Rattle.std.specs.Prelude.{ℕ, ◌<◌, ◌≡◌, Bool, true, cond, List, Float, IfSome}
use Rattle.std.specs.Prelude.{Option, None, Some}
use Rattle.std.specs.Option.{option_map}
use Rattle.definition.specs.Vector.{all_finite, ◌and_then◌, finite_only}
use Rattle.definition.specs.Solve.{Matrix, System, system, scale_of, column, triangular, backward}
use Rattle.solve.specs.Steps.{stepped, forward_to, OrderInRange, regular}
use Rattle.solve.specs.declared.Cleared.{Cleared}
use Rattle.solve.specs.declared.factors.Factors.{Factors}

-- the system with the right side b once column k is cleared, t being the matrix
abbrev pub cleared_with : ℕ → ℕ → Matrix → List Float → Cleared → System
cleared_with n k t b c = system t (stepped n k c.multipliers c.row b)

-- column k is done, where it has a pivot: a becomes t
pub record Clears (n : ℕ) (scale : Float) (k : ℕ) (a : Matrix) (o : Option Cleared) (t : Matrix) : Type 0 where
  pub within : IfSome o (λ c. c.row < n)
  pub is : (b : List Float) → option_map (cleared_with n k t b) o ≡ column n scale k (Some (system a b))

-- the triangular system with the right side b, where ok says that every column has its pivot
abbrev pub taken : Bool → ℕ → List Float → Factors → Option System
taken ok n b f = cond ok (Some (system f.rows (forward_to n n f.multipliers f.order b))) None

-- every column is done, where ok says that each has a pivot
pub record Triangular (n : ℕ) (scale : Float) (a : Matrix) (ok : Bool) (f : Factors) : Type 0 where
  pub within : ok ≡ true → OrderInRange n f.order
  pub is : (b : List Float) → taken ok n b f ≡ triangular n scale (system a b)

-- a is eliminated, where it can be
pub record Factored (n : ℕ) (a : Matrix) (f : Factors) : Type 0 where
  pub within : f.complete ≡ true → OrderInRange n f.order
  pub is : (b : List Float) → taken f.complete n b f ≡ cond (regular (scale_of n a)) (triangular n (scale_of n a) (system a b)) None

-- the solution by the factors
unfoldable pub solved_by : ℕ → Factors → List Float → Option (List Float)
solved_by n f b = cond (all_finite n b) (taken f.complete n b f and_then λ s. finite_only n (backward n s)) None
