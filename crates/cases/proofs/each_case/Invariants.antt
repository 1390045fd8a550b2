-- `cases::each_case` meets its contract: what comes from the next number on is what comes from 0 on. Assumes nothing.
use Rattle.cases.specs.Cases.{CasesFrom}
use Rattle.cases.proofs.each_case.Given as goal

abbrev pub invariant-loop-number : goal.invariant-loop-number
invariant-loop-number g l =
    goal.F-IsAlwaysCallable g l.one_case
    × ((result : _) → CasesFrom (goal.F-step g) l.one_case l.number result → CasesFrom (goal.F-step g) l.fn.one_case 0 result)
