-- `subspace::difference` meets its contract: the first i words are those of the difference. Assumes nothing.
use lib.ListN.{length}
use Rattle.definition.specs.Number.{minus}
use Rattle.definition.specs.Vector.{word}
use Rattle.subspace.proofs.Arrays.{Filled}
use Rattle.subspace.proofs.difference.Given as goal

abbrev pub invariant-loop-i : goal.invariant-loop-i
invariant-loop-i l = Filled (length l.left) (λ i. minus (word l.left i) (word l.right i)) l.word-items l.i
