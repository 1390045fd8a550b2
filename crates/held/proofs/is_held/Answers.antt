-- `held::is_held` meets its contract: of a state that is ready the mark's word lies within the area. Assumes nothing.
use mathlib.Core.Path.{sym, ◌∙◌}
use native.Mathlib.Omega.{arith}
use Rattle.held.proofs.Test.{ready_facts}
use Rattle.held.proofs.Parts.{mark_behind, mark_most}
use Rattle.held.proofs.is_held.Goals as goal

pub mark_at-requires : goal.mark_at-requires
mark_at-requires c = let b = mark_behind _ _ (ready_facts _ _ (sym c.is_ready.ensures ∙ c.if-is_ready.true)).shape in (b.n, b.m)

pub offset_bounds-area-mark_at : goal.offset_bounds-area-mark_at
offset_bounds-area-mark_at c =
    let b = mark_behind _ _ (ready_facts _ _ (sym c.is_ready.ensures ∙ c.if-is_ready.true)).shape in
    omega (arith, c.mark_at.ensures, mark_most c.args.fit.shape b.n b.m)

pub bounds-area-mark_at : goal.bounds-area-mark_at
bounds-area-mark_at c = rw c.mark_at.ensures (mark_behind _ _ (ready_facts _ _ (sym c.is_ready.ensures ∙ c.if-is_ready.true)).shape).room
