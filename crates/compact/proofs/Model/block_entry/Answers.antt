-- `compact::Model::block_entry` meets its contract: below the diagonal by symmetry, otherwise by the row's half and the column's. Assumes nothing.
use mathlib.Core.Path.{ap}
use Prim.Native.Nat.{◌≤◌}
use native.Mathlib.Omega.{arith}
use borrow.Author.Tests.{lt-ltb, le-ltb}
use Rattle.definition.specs.Number.{times}
use Rattle.definition.specs.Compact.{block_entry}
use Rattle.area.specs.Area.{view}
use Rattle.compact.proofs.Laws.{pairs_count, dot_same}
use Rattle.compact.proofs.Mirror.{from_above}
use Rattle.compact.proofs.Model.block_entry.Goals as goal

pub returns-then-j-i : goal.returns-then-j-i
returns-then-j-i c = from_above _ _ _ _ _ _ c.requires.3 c.if-j-i.true c.requires.1

pub returns-then-pairs-i : goal.returns-then-pairs-i
unfolding block_entry
returns-then-pairs-i c =
    let a = c.args in
    let h = a.self.now.shape in
    let v = view a.area.now h.n in
    let k : h.pairs ≤ a.j = omega arith in
    rw (pairs_count, le-ltb _ _ c.if-pairs-i.true, le-ltb _ _ k)
    (ap (times _) (dot_same h.n c.dot.ensures (c.pair_slot-left.ensures.s v) (c.pair_slot-right.ensures.s v)))

pub returns-then-j-pairs : goal.returns-then-j-pairs
unfolding block_entry
returns-then-j-pairs c = rw (pairs_count, lt-ltb _ _ c.if-pairs-i.false, lt-ltb _ _ c.if-j-pairs.true) c.diagonal.ensures

pub returns : goal.returns
unfolding block_entry
returns c = rw (pairs_count, lt-ltb _ _ c.if-pairs-i.false, le-ltb _ _ c.if-j-pairs.false) c.lower.ensures
