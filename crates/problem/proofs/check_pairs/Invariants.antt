-- `problem::check_pairs` meets its contract. The loop's invariant: every check below the index has passed, and the rest of each side is to come.
-- Assumes nothing.
use mathlib.Core.Path.{◌≡◌}
use Prim.Native.Nat.{◌+◌}
use lib.ListN.{length}
use Rattle.std.specs.Prelude.{None}
use Rattle.std.specs.Slice.Iter.{iter_rest}
use Rattle.definition.specs.Problem.{check_pair, each_index}
use Rattle.problem.specs.Setups.{box_of}
use Rattle.problem.proofs.check_pairs.Given as goal

abbrev pub invariant-loop-index : goal.invariant-loop-index
invariant-loop-index l =
    let at = l.index-iterator in
    (each_index at.count (check_pair (box_of l.lower l.upper)) ≡ None)
    × (at.count + length (iter_rest at.iter.a) ≡ length l.lower)
    × (at.count + length (iter_rest at.iter.b) ≡ length l.upper)
