-- `lookup::entry` meets its contract; in its loop i entries are skipped. Assumes nothing.
use Rattle.lookup.proofs.Entries.{Skipped}
use Rattle.lookup.proofs.entry.Given as goal

abbrev pub invariant-loop : goal.invariant-loop
invariant-loop l = Skipped l.n l.k l.words l.rest l.counter
