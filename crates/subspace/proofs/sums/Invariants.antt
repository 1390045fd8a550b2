-- `subspace::sums` meets its contract: with the rows that are held the sums are those of the first i coordinates. Assumes nothing.
use Prim.Native.Nat.{◌*◌}
use Rattle.definition.specs.Number.{neg_zero}
use Rattle.area.proofs.Laws.{Folded}
use Rattle.subspace.specs.State.{grid, add_rows, Held, add_free}
use Rattle.subspace.proofs.sums.Given as goal

abbrev pub invariant-loop-i : goal.invariant-loop-i
invariant-loop-i l =
    let size = 2 * l.shape.pairs in
    Folded l.area l.shape.n (grid size (λ i j. neg_zero)) (λ i. add_free l.shape) (add_rows size l.batch.items l.sums) l.i × Held size l.batch.items l.sums
