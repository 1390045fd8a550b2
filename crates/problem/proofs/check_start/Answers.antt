-- `problem::check_start` meets its contract. The loop's invariant: every check below the index has passed. Assumes nothing.
use native.Mathlib.Omega.{arith}
use Rattle.problem.proofs.Laws.{each_refused}
use Rattle.problem.proofs.check_start.Goals as goal

pub returns-then-not-is_finite : goal.returns-then-not-is_finite
returns-then-not-is_finite c =
    each_refused _ _ c.loop-index.invariant (omega arith) (simp (← c.is_finite.ensures, c.if-not-is_finite.true))
