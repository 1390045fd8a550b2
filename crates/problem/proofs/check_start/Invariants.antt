-- `problem::check_start` meets its contract. The loop's invariant: every check below the index has passed. Assumes nothing.
use mathlib.Core.Bool.{not}
use lib.Ieee.Scale.{finite}
use Rattle.definition.specs.Vector.{word}
use Rattle.definition.specs.Problem.{when, refuse, each_index}
use Rattle.std.specs.Prelude.{None}
use mathlib.Core.Path.{◌≡◌}
use Rattle.problem.proofs.check_start.Given as goal

abbrev pub invariant-loop-index : goal.invariant-loop-index
invariant-loop-index l = each_index l.index (λ j. when (not (finite (word l.x0 j))) (refuse 2 j 0)) ≡ None
