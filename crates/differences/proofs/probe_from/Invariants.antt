-- `differences::probe_from` meets its contract; in its loop the coordinates before j are passed. Assumes nothing.
use Rattle.differences.proofs.Laws.{Passed}
use Rattle.differences.proofs.probe_from.Given as goal

abbrev pub invariant-loop-j : goal.invariant-loop-j
invariant-loop-j l = Passed l.numbers l.fit l.i l.initial.area l.area l.j
