-- `compact::Model::block_row` meets its contract: the first j entries are made. Assumes nothing.
use Prim.Native.Nat.{◌*◌}
use Rattle.definition.specs.Number.{zero64}
use Rattle.definition.specs.Compact.{block_entry}
use Rattle.area.specs.Area.{view}
use Rattle.compact.specs.State.{compact_of}
use Rattle.compact.proofs.Laws.{Filling}
use Rattle.compact.proofs.Model.block_row.Given as goal

abbrev pub invariant-loop-j : goal.invariant-loop-j
invariant-loop-j l =
    let h = l.self.shape in
    Filling zero64 (2 * h.pairs) (block_entry h.n (compact_of h l.self.theta (view l.area h.n)) l.i) l.place-items l.j
