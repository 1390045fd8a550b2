-- `subspace::reduced_right` meets its contract: the first i products are made, from the columns as they stand. Assumes nothing.
use Prim.Native.Nat.{◌*◌}
use Rattle.definition.specs.Number.{times}
use Rattle.definition.specs.Vector.{word}
use Rattle.definition.specs.Compact.{column_word}
use Rattle.definition.specs.Geometry.{free_sum}
use Rattle.area.specs.Area.{view, bounds_of, vector_cauchy, vector_product_d}
use Rattle.compact.specs.State.{compact_of}
use Rattle.subspace.proofs.Arrays.{Filled}
use Rattle.subspace.proofs.reduced_right.Given as goal

abbrev pub invariant-loop-i : goal.invariant-loop-i
invariant-loop-i l =
    let v = view l.area l.shape.n in
    Filled (2 * l.shape.pairs)
    (λ i. free_sum l.shape.n (bounds_of v) (v vector_cauchy) (λ k. times (column_word (compact_of l.shape l.model.theta v) i k) (word (v vector_product_d) k)))
    l.product-items l.i
