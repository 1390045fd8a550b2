-- `solve::pivot` meets its contract: the row that is picked of the range. Assumes nothing.
use mathlib.Core.Path.{refl}
use Prim.Native.Nat.{suc, ◌+◌, ◌-◌}
use native.Mathlib.Omega.{arith}
use borrow.Author.Rules.{rules}
use Rattle.std.proofs.lemmas.Iterator.{YieldsList-from_range}
use Rattle.solve.proofs.Picking.{pivots_row}
use Rattle.solve.proofs.pivot.Goals as goal

pub returns : goal.returns
returns c =
    let a = c.args in
    let m = a.n - (a.k + 1) in
    rw c.unwrap_or.ensures
    (pivots_row _ _ a.matrix.now a.n a.k (λ i r g h. (search rules, search rules)) _ c.max_by_key.result m (omega arith) c.max_by_key.ensures.ran
    (YieldsList-from_range a.k a.n (suc m) refl (omega arith)))
