-- `compact::right_side` meets its contract: the first k products are made, from the columns as they stand. Assumes nothing.
use Prim.Native.Nat.{◌*◌}
use Rattle.definition.specs.Number.{zero64}
use Rattle.definition.specs.Compact.{column_dot}
use Rattle.area.specs.Area.{view}
use Rattle.compact.specs.State.{compact_of}
use Rattle.compact.proofs.Laws.{Filling}
use Rattle.compact.proofs.right_side.Given as goal

abbrev pub invariant-loop-column : goal.invariant-loop-column
invariant-loop-column l =
    let h = l.model.shape in
    let v = view l.area h.n in
    Filling zero64 (2 * h.pairs) (λ k. column_dot h.n (compact_of h l.model.theta v) k (v l.vector)) l.place-items l.column
