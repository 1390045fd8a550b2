-- `compact::Model::build_block` meets its contract: the first i rows are made. Assumes nothing.
use mathlib.Core.Path.{◌≡◌}
use Prim.Native.Nat.{ℕ, ◌*◌}
use Rattle.definition.specs.Number.{zero64}
use Rattle.definition.specs.Compact.{block_entry, padded, zero_row}
use Rattle.area.specs.Area.{view}
use Rattle.compact.specs.State.{compact_of}
use Rattle.compact.proofs.Laws.{Filling}
use Rattle.compact.proofs.Model.build_block.Given as goal

abbrev pub invariant-loop-i : goal.invariant-loop-i
invariant-loop-i l =
    let h = l.self.shape in
    let entries = block_entry h.n (compact_of h l.self.theta (view l.area h.n)) in
    record {
      shape : h ≡ l.fn.self.shape;
      theta : l.self.theta ≡ l.fn.self.theta;
      factors : l.self.factors ≡ l.fn.self.factors;
      rows : Filling zero_row 32 (λ (i : ℕ). padded zero64 (2 * h.pairs) (entries i)) l.self.block l.i;
    }
