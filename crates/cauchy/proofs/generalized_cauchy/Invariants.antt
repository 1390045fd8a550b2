-- `cauchy::generalized_cauchy` meets its contract: the path is on its way from its start. Assumes nothing.
use mathlib.Core.Path.{◌≡◌}
use Prim.Native.Nat.{◌+◌, ◌-◌}
use lib.ListN.{length}
use Rattle.area.specs.Area.{view}
use Rattle.cauchy.proofs.Segments.{Walking}
use Rattle.cauchy.proofs.generalized_cauchy.Given as goal

abbrev pub invariant-loop : goal.invariant-loop
invariant-loop l = record {
  way : let h = l.model.shape in
      Walking h l.model.theta l.initial.path.breaks.now (h.n + 2) l.initial.path (view l.initial.area h.n) (h.n + 2 - l.counter) l.path (view l.area h.n);
  long : length l.area ≡ length l.initial.area;
}
