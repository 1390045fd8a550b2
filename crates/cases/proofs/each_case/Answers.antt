-- `cases::each_case` meets its contract: a call that is the last, fails or goes on. Assumes nothing.
use Rattle.std.proofs.Common.{arith, of_calls}
use Rattle.std.proofs.lemmas.Result.{err_from_is_err_and}
use Rattle.cases.specs.Cases.{CasesFrom}
use Rattle.cases.proofs.Turns.{ends, goes, stops}
use Rattle.cases.proofs.each_case.Goals as goal

pub returns-in_err-one_case : goal.returns-in_err-one_case
returns-in_err-one_case g c =
    let p = err_from_is_err_and c.from_residual.result c.from_residual.ensures.1 in
    c.loop-number.invariant.1 _ (rw (p.1, p.2) (CasesFrom.failed c.in_err-one_case.ensures))

pub returns-then-not-branch : goal.returns-then-not-branch
returns-then-not-branch g c = c.loop-number.invariant.1 _ (ends _ _ c.if-not-branch.true c.in_ok-one_case.ensures)

pub loop-number-preserved : goal.loop-number-preserved
loop-number-preserved g c =
    (search of_calls, λ result rest. c.loop-number.invariant.1 result (goes _ _ c.if-not-branch.false c.in_ok-one_case.ensures rest))

pub returns : goal.returns
returns g c = c.loop-number.invariant.1 _ (stops (omega arith))
