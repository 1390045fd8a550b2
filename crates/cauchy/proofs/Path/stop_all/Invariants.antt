-- `cauchy::Path::stop_all` meets its contract: the path is on its way from where it was. Assumes nothing.
use mathlib.Core.Path.{◌≡◌}
use Prim.Native.Nat.{◌+◌}
use lib.ListN.{length}
use Rattle.area.specs.Area.{view}
use Rattle.cauchy.proofs.Paths.{Stopping}
use Rattle.cauchy.proofs.Path.stop_all.Given as goal

abbrev pub invariant-loop-entry : goal.invariant-loop-entry
invariant-loop-entry l = record {
  way : Stopping l.self.breaks.now l.time l.initial.reached (view l.initial.area l.n) l.reached (view l.area l.n);
  event : l.reached.event ≡ l.self.event + length l.yielded;
  long : length l.area ≡ length l.initial.area;
}
