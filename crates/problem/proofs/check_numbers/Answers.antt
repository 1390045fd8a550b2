-- `problem::check_numbers` meets its contract. The loop's invariant: every check below the index has passed. Assumes nothing.
use native.Mathlib.Omega.{arith}
use Rattle.problem.proofs.Laws.{each_refused}
use Rattle.problem.proofs.check_numbers.Goals as goal

pub returns-then-is_nan : goal.returns-then-is_nan
returns-then-is_nan c =
    each_refused _ _ c.loop-index.invariant (omega arith) (simp (← c.is_nan.ensures, c.if-is_nan.true))
