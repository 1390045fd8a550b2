-- `subspace::add_rest` meets its contract: the first rows are added. Assumes nothing.
use lib.ListN.{length}
use Rattle.definition.specs.Solve.{row}
use Rattle.area.proofs.Laws.{Looped}
use Rattle.subspace.specs.State.{each, product_to}
use Rattle.subspace.proofs.add_rest.Given as goal

abbrev pub invariant-loop-row : goal.invariant-loop-row
invariant-loop-row l = Looped (length l.batch) (λ t b. each l.size (product_to (row l.batch t)) b) l.initial.sums l.sums l.row-index
