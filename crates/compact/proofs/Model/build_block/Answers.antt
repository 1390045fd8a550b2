-- `compact::Model::build_block` meets its contract: the first i rows are made. Assumes nothing.
use mathlib.Core.Path.{refl, ap}
use native.Mathlib.Omega.{arith}
use lib.Ieee.{of_bits}
use Rattle.compact.specs.declared.Shape.{Shape}
use Rattle.compact.proofs.Laws.{filling_all, filled_count, filling_more, filling_padded, pairs_count}
use Rattle.compact.proofs.Model.build_block.Goals as goal

pub loop-i-init : goal.loop-i-init
unfolding of_bits
loop-i-init c = record { shape = refl; theta = refl; factors = refl; rows = filling_all }

pub block_row-row-requires : goal.block_row-row-requires
block_row-row-requires c =
    let made = c.loop-i.invariant in
    let count = ap (λ (h : Shape). h.pairs) made.shape in
    (rw made.shape c.requires, omega (arith, count), filling_padded made.rows refl)

pub loop-i-preserved : goal.loop-i-preserved
loop-i-preserved c =
    let made = c.loop-i.invariant in
    record {
      shape = made.shape;
      theta = made.theta;
      factors = made.factors;
      rows = filling_more made.rows refl (omega (arith, filled_count made.rows)) c.block_row-row.ensures;
    }

pub returns : goal.returns
returns c =
    let made = c.loop-i.invariant in
    let count = ap (λ (h : Shape). h.pairs) made.shape in
    (made.shape, made.theta, rw (← made.shape, ← made.theta) (rw pairs_count (filling_padded made.rows (omega (arith, count)))), made.factors)
