-- `subspace::gather` meets its contract: the first j words are gathered. Assumes nothing.
use Prim.Native.Nat.{◌*◌}
use Rattle.area.specs.Area.{words_at}
use Rattle.compact.specs.State.{column_slot}
use Rattle.subspace.proofs.Arrays.{Filled}
use Rattle.subspace.proofs.gather.Given as goal

abbrev pub invariant-loop-j : goal.invariant-loop-j
invariant-loop-j l = Filled (2 * l.shape.pairs) (λ j. words_at l.area l.shape.n l.i (column_slot l.shape j)) l.word-items l.j
