-- What doing case after case comes to, by the calls of the function that does one.
use Rattle.std.specs.Prelude.{ℕ, ◌+◌, Bool, true, false, Result, Ok, Err}

-- The calls from a number on, each at the state that the last one left, and what is answered at their end: the first that says that there
-- is no other case ends them well, the first error ends them with it, and so does the most that a number may be.
pub data CasesFrom {F E : Type 0} (step : F → ℕ → Result Bool E → F → Type 0) : F → ℕ → Result Unit E → Type 0 where
  last : {f g : F} {number : ℕ} → step f number (Ok false) g → CasesFrom step f number (Ok tt)
  failed : {f g : F} {number : ℕ} {error : E} → step f number (Err error) g → CasesFrom step f number (Err error)
  more : {f g : F} {number : ℕ} {result : Result Unit E} → step f number (Ok true) g → CasesFrom step g (number + 1) result → CasesFrom step f number result
  most : {f : F} → CasesFrom step f 0xFFFF_FFFF_FFFF_FFFF (Ok tt)
