-- `cauchy::Path::segment` meets its contract: no direction left, a product that fails, or the slope decides. Assumes nothing.
use mathlib.Core.Bool.{not}
use mathlib.Core.Path.{ap}
use native.Mathlib.Omega.{arith}
use Rattle.area.specs.Area.{vector_product_d}
use Rattle.compact.proofs.Models.{prepared_kept}
use Rattle.cauchy.proofs.Segments.{product_kept, segment_ends, segment_fails₁, segment_fails₂, segment_goes}
use Rattle.cauchy.proofs.Path.segment.Goals as goal

pub returns-then-still : goal.returns-then-still
returns-then-still c =
    let s = c.args in
    let m = s.model.now in
    segment_ends m.shape m.theta s.self.breaks.now s.self c.still.ensures c.if-still.true c.point_on_path.ensures

pub returns-then-not-product : goal.returns-then-not-product
returns-then-not-product c =
    let s = c.args in
    let m = s.model.now in
    segment_fails₁ m.shape m.theta s.self.breaks.now s.self c.still.ensures c.if-still.false c.product.ensures (ap not c.if-not-product.true)

pub product-requires-2 : goal.product-requires-2
product-requires-2 c = (
  rw c.product.auto.area c.requires.0,
  prepared_kept _ (product_kept vector_product_d c.product.ensures (omega arith) (omega arith)).high c.requires.1,
  omega arith,
  omega arith,
)

pub returns-then-not-product-2 : goal.returns-then-not-product-2
returns-then-not-product-2 c =
    let s = c.args in
    let m = s.model.now in
    segment_fails₂ m.shape m.theta s.self.breaks.now s.self c.still.ensures c.if-still.false c.product.ensures (ap not c.if-not-product.false)
    c.product-2.ensures (ap not c.if-not-product-2.true)

pub returns : goal.returns
returns c =
    let s = c.args in
    let m = s.model.now in
    segment_goes m.shape m.theta s.self.breaks.now s.self c.still.ensures c.if-still.false c.product.ensures (ap not c.if-not-product.false)
    c.product-2.ensures (ap not c.if-not-product-2.false) c.slope.ensures c.dot-curvature.ensures c.by_slope.ensures
