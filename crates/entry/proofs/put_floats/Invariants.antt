-- `entry::put_floats` meets its contract: the first i floats stand in the output. Assumes nothing.
use lib.ListN.{length}
use Rattle.entry.proofs.Floats.{Putting}
use Rattle.entry.proofs.put_floats.Given as goal

abbrev pub invariant-loop-i : goal.invariant-loop-i
invariant-loop-i l = Putting l.point (length l.point) l.initial.out l.out l.i
