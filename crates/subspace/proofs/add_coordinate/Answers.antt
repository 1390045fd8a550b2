-- `subspace::add_coordinate` meets its contract, by its tests. Assumes nothing.
use mathlib.Core.Path.{sym, ap, ◌∙◌}
use Prim.Native.Nat.{◌*◌, ◌<◌}
use native.Mathlib.Omega.{arith}
use borrow.Author.Tests.{eqb-true, eqb-false}
use lib.ListN.{length}
use Rattle.definition.specs.Solve.{Matrix}
use Rattle.area.specs.Area.{words_at}
use Rattle.subspace.specs.State.{each, four_to}
use Rattle.subspace.proofs.Laws.{is_free_in}
use Rattle.subspace.proofs.Grid.{joins_batch, fills_batch}
use Rattle.subspace.proofs.add_coordinate.Goals as goal

pub returns-then-is_full : goal.returns-then-is_full
returns-then-is_full c =
    let g = c.args in
    let w = words_at g.area.now g.shape.n g.i in
    let free = is_free_in w c.coordinate_at.ensures c.is_free.ensures ∙ c.if-not-is_free.false in
    rw c.clear.ensures
    (fills_batch g.shape w g.batch.now.items g.sums.now free c.gather.ensures c.requires.2 c.push.ensures.items _
    (eqb-true _ _ (sym c.is_full.ensures.value ∙ c.if-is_full.true))
    (c.add_fours.ensures ∙ ap (λ (p : Matrix). each (2 * g.shape.pairs) (four_to p) g.sums.now) c.as_slice.ensures.value))

pub returns-else-is_full : goal.returns-else-is_full
returns-else-is_full c =
    let g = c.args in
    let w = words_at g.area.now g.shape.n g.i in
    let free = is_free_in w c.coordinate_at.ensures c.is_free.ensures ∙ c.if-not-is_free.false in
    let few : length c.push.new.self.items < 4 =
    omega (arith, c.requires.2.few, c.push.ensures.len, eqb-false _ _ (sym c.is_full.ensures.value ∙ c.if-is_full.false)) in
    joins_batch g.shape w g.batch.now.items g.sums.now free c.gather.ensures c.requires.2 c.push.ensures.items few
