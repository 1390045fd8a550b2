-- What the C entry returns and writes, by the definition.
use Rattle.std.specs.Prelude.{ℕ, ◌≡◌, List}
use Rattle.std.specs.Prelude.{None}
use Rattle.definition.specs.Machine.{Machine, question}
use Rattle.definition.specs.Programs.{Returned}
use Rattle.question.specs.Reports.{written}

-- the number, and the output with these bytes in front: not a byte past them is touched
pub record Returns (a : Returned) (r : ℕ) (out out' : List ℕ) : Type 0 where
  pub number : r ≡ a.number
  pub output : out' ≡ written a.output out

-- no question is open
abbrev pub HasEnded : Machine → Type 0
HasEnded m = question m ≡ None
