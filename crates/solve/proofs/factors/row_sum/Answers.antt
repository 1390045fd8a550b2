-- `factors::row_sum` meets its contract. Assumes nothing.
use mathlib.Core.Path.{◌≡◌, ◌∙◌}
use mathlib.Core.List.{map}
use Prim.Native.Nat.{◌+◌, ◌-◌}
use native.Mathlib.Omega.{arith}
use borrow.Author.Rules.{rules}
use lib.ListN.{take, drop}
use Rattle.std.specs.List.{zip}
use Rattle.std.specs.Slice.Iter.{iter_rest}
use Rattle.std.proofs.lemmas.Iterator.{YieldsList-from_slice, YieldsList-from_map, YieldsList-from_zip}
use Rattle.std.proofs.lemmas.Iterator.Consumers.{YieldsList-at}
use Rattle.definition.specs.Number.{times}
use Rattle.definition.specs.Solve.{row}
use Rattle.area.proofs.Laws.{summed}
use Rattle.solve.proofs.Steps.{products_from}
use Rattle.solve.proofs.factors.row_sum.Goals as goal

pub returns : goal.returns
returns c =
    let a = c.args in
    let m = a.n - (a.i + 1) in
    let xs = take m (drop (a.i + 1) (row a.matrix.now a.i)) in
    let ys = take m (drop (a.i + 1) a.x.now) in
    let left : iter_rest c.zip.result.a ≡ xs = search rules in
    let right : iter_rest c.zip.result.b ≡ ys = search rules in
    summed c.sum.result c.map.result (map (λ r. times r.0 r.1) (zip xs ys)) c.sum.ensures.ran
    (YieldsList-from_map _ (λ r. times r.0 r.1)
    (YieldsList-at c.map.ensures.source (YieldsList-from_zip (YieldsList-from_slice _ left) (YieldsList-from_slice _ right)))
    c.map.ensures.closure (λ x r q k. search rules))
    ∙ products_from (row a.matrix.now a.i) a.x.now (a.i + 1) m (search (rules, arith)) (search (rules, arith))
