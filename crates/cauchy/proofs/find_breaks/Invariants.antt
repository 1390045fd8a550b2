-- `cauchy::find_breaks` meets its contract: b holds the breaks of the first i coordinates. Assumes nothing.
use Rattle.area.specs.Area.{view}
use Rattle.cauchy.proofs.Order.{Finding}
use Rattle.cauchy.proofs.find_breaks.Given as goal

abbrev pub invariant-loop-i : goal.invariant-loop-i
invariant-loop-i l = Finding l.n (view l.area l.n) l.i l.breaks
