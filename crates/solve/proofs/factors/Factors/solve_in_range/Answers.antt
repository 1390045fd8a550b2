-- `Factors::solve_in_range` meets its contract. Assumes nothing.
use native.Mathlib.Omega.{arith}
use Rattle.solve.specs.Factors.{solved_by}
use Rattle.solve.proofs.Steps.{neither, finite_to, if_true}
use Rattle.solve.proofs.factors.Factors.solve_in_range.Goals as goal
use Rattle.solve.proofs.factors.Factors.solve_in_range.Goals.{then-not-self-via-then-not-self, then-not-self-via-else-not-self+then-not-all_finite}

pub returns-then-not-self : goal.returns-then-not-self
unfolding solved_by
returns-then-not-self c =
    elim c.then-not-self.branch [
      | then-not-self-via-then-not-self w ↦ rw w.if-not-self.true (neither _)
      | then-not-self-via-else-not-self+then-not-all_finite w ↦
          rw (← finite_to c.args.right c.args.n (omega arith), ← w.all_finite.ensures, w.if-not-all_finite.true)
    ]

pub returns : goal.returns
unfolding solved_by
returns c =
    rw (
      c.then_some.ensures,
      if_true,
      c.if-not-self.false,
      ← finite_to c.args.right c.args.n (omega arith),
      ← c.all_finite.ensures,
      c.if-not-all_finite.false,
      ← c.forward-eliminated.ensures,
      ← c.backward-x.ensures,
      ← finite_to c.backward-x.result c.args.n (omega arith),
      ← c.all_finite-2.ensures,
    )
