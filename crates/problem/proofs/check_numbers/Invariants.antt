-- `problem::check_numbers` meets its contract. The loop's invariant: every check below the index has passed. Assumes nothing.
use lib.Ieee.{is_nan}
use Rattle.definition.specs.Vector.{word}
use Rattle.definition.specs.Problem.{when, refuse, each_index}
use Rattle.std.specs.Prelude.{None}
use mathlib.Core.Path.{◌≡◌}
use Rattle.problem.proofs.check_numbers.Given as goal

abbrev pub invariant-loop-index : goal.invariant-loop-index
invariant-loop-index l = each_index l.index (λ j. when (is_nan (word l.side j)) (refuse 4 j 0)) ≡ None
