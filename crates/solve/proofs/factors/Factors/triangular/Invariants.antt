-- `Factors::triangular` meets its contract; in its loop the first k columns are done, and the order stays in range. Assumes nothing.
use Prim.Native.Nat.{ℕ}
use Rattle.solve.specs.Steps.{OrderInRange}
use Rattle.solve.proofs.Steps.{Columns}
use Rattle.solve.proofs.factors.Factors.triangular.Given as goal

abbrev pub invariant-loop-k : goal.invariant-loop-k
invariant-loop-k l =
    Columns l.n l.scale l.initial.self.rows l.self.rows l.self.multipliers l.self.order l.k
    × ((m : ℕ) → OrderInRange m l.initial.self.order → OrderInRange m l.self.order)
