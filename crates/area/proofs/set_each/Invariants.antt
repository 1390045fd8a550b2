-- `area::set_each` meets its contract: the first i words are made. Assumes nothing.
use Prim.Native.Nat.{ℕ}
use lib.Ieee.{Float}
use lib.ListN.{length}
use Rattle.area.specs.Area.{GivesEach}
use Rattle.area.proofs.Laws.{Row}
use Rattle.area.proofs.set_each.Given as goal

abbrev pub invariant-loop-i : goal.invariant-loop-i
invariant-loop-i f l =
    (g : ℕ → (ℕ → Float) → Float) → GivesEach (goal.F-post f l.made) l.n (length l.initial.area) g → Row l.initial.area l.n l.vector g l.area l.i
