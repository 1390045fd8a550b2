-- `Factors::solve` meets its contract: by a row that is not one of the 32 there is no solution. Assumes nothing.
use mathlib.Core.Path.{sym, ◌∙◌}
use native.Mathlib.Omega.{arith}
use borrow.Author.Tests.{ltb-false}
use lib.Dec.{ltb}
use lib.ListN.{take, get_or}
use lib.Seq.{get_or-take, length-take-le}
use Prim.Native.Nat.{ℕ, ◌<◌, ◌≤◌}
use Rattle.solve.proofs.Range.{one_not, unsolved}
use Rattle.solve.proofs.factors.Factors.solve.Goals as goal

pub returns-then-not-are_rows : goal.returns-then-not-are_rows
returns-then-not-are_rows c =
    let f = c.args.self.now in
    let rows = take c.args.n f.order in
    let out = one_not (λ (p : ℕ). ltb p 32) 0 rows (sym c.are_rows.ensures ∙ c.if-not-are_rows.true) in
    let k : out.0 < c.args.n = omega (arith, out.1, length-take-le c.args.n f.order (omega arith)) in
    let past : 32 ≤ get_or rows out.0 0 = ltb-false (get_or rows out.0 0) 32 out.2 in
    sym (unsolved f c.args.right k (omega (arith, past, get_or-take c.args.n f.order out.0 0 k)))
