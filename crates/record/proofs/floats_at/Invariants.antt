-- `record::floats_at` meets its contract: the first i floats are laid. Assumes nothing.
use Rattle.record.proofs.Floats.{Filling}
use Rattle.record.proofs.floats_at.Given as goal

abbrev pub invariant-loop-i : goal.invariant-loop-i
invariant-loop-i l = Filling l.bytes l.at l.count l.float-items l.i
