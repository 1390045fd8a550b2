-- `subspace::free_sum` meets its contract: the chain adds up the products of the coordinates that are free. Assumes nothing.
use mathlib.Core.Path.{refl, ◌∙◌}
use mathlib.Core.List.{map}
use Prim.Native.Nat.{ℕ}
use native.Mathlib.Omega.{arith}
use Rattle.std.specs.List.{filter, range_with_len}
use Rattle.std.proofs.Common.{rules}
use Rattle.std.proofs.lemmas.Iterator.{YieldsList-from_range, YieldsList-from_map}
use Rattle.std.proofs.lemmas.Iterator.Consumers.{YieldsList-at, YieldsList-from_filter}
use Rattle.definition.specs.Number.{times}
use Rattle.area.specs.Area.{words_at}
use Rattle.area.proofs.Laws.{summed}
use Rattle.subspace.specs.State.{free_in}
use Rattle.subspace.proofs.Laws.{free_products}
use Rattle.subspace.proofs.free_sum.Goals as goal

pub returns : goal.returns
returns c =
    let a = c.args.area.now in
    let n = c.args.n in
    let free = λ (i : ℕ). free_in (words_at a n i) in
    let product = λ (i : ℕ). times (words_at a n i c.args.left) (words_at a n i c.args.right) in
    summed c.sum.result c.map.result (map product (filter free (range_with_len 0 n))) c.sum.ensures.ran
    (YieldsList-from_map _ product
    (YieldsList-at c.map.ensures.source
    (YieldsList-from_filter _ free (YieldsList-at c.filter.ensures.source (YieldsList-from_range 0 n n refl (omega arith)))
    c.filter.ensures.closure (λ x b q k. search rules)))
    c.map.ensures.closure (λ x r q k. search rules))
    ∙ free_products a n c.args.left c.args.right
