-- `area::dot` meets its contract. Assumes nothing.
use mathlib.Core.Path.{◌≡◌, ◌∙◌}
use mathlib.Core.List.{map}
use Rattle.std.specs.List.{zip}
use borrow.Author.Rules.{rules}
use Rattle.std.specs.Slice.Iter.{iter_rest}
use Rattle.std.proofs.lemmas.Iterator.{YieldsList-from_slice, YieldsList-from_map, YieldsList-from_zip}
use Rattle.std.proofs.lemmas.Iterator.Consumers.{YieldsList-at}
use Rattle.definition.specs.Number.{times}
use Rattle.area.specs.Area.{view}
use Rattle.area.proofs.Laws.{products, summed, part_lent}
use Rattle.area.proofs.dot.Goals as goal

pub returns : goal.returns
returns c =
    let a = c.args.area.now in
    let n = c.args.n in
    let left : iter_rest c.zip.result.a ≡ view a n c.args.left = rw (c.zip.ensures.first, c.iter.ensures.rest) (part_lent a c.args.left n) in
    let right : iter_rest c.zip.result.b ≡ view a n c.args.right = rw (← part_lent) cc in
    summed c.sum.result c.map.result (map (λ r. times r.0 r.1) (zip (view a n c.args.left) (view a n c.args.right))) c.sum.ensures.ran
    (YieldsList-from_map _ (λ r. times r.0 r.1)
    (YieldsList-at c.map.ensures.source (YieldsList-from_zip (YieldsList-from_slice _ left) (YieldsList-from_slice _ right)))
    c.map.ensures.closure (λ x r q k. search rules))
    ∙ products a n c.args.left c.args.right c.requires.0 c.requires.1
