-- `compact::update` meets its contract: a pair that is acceptable is pushed, and otherwise all stays. Assumes nothing.
use Rattle.compact.proofs.Ring.{pair_taken, pair_refused}
use Rattle.compact.proofs.update.Goals as goal

pub returns-in_default : goal.returns-in_default
returns-in_default c = pair_refused c.dot-sy.ensures c.dot-yy.ensures c.in_default.ensures

pub returns : goal.returns
returns c = pair_taken c.dot-sy.ensures c.dot-yy.ensures c.in-Some.ensures c.push.ensures
