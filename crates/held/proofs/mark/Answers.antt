-- `held::mark` meets its contract: the mark's word lies behind the vectors, within the area. Assumes nothing.
use native.Mathlib.Omega.{arith}
use Rattle.float.proofs.Constants.{one_is}
use Rattle.held.proofs.Parts.{mark_behind, mark_most, marks}
use Rattle.held.proofs.mark.Goals as goal

pub mark_at-requires : goal.mark_at-requires
mark_at-requires c = let b = mark_behind _ _ c.requires in (b.n, b.m)

pub offset_bounds-area-mark_at : goal.offset_bounds-area-mark_at
offset_bounds-area-mark_at c =
    let b = mark_behind _ _ c.requires in
    omega (arith, c.mark_at.ensures, mark_most c.args.shape b.n b.m)

pub bounds-area-mark_at : goal.bounds-area-mark_at
bounds-area-mark_at c = rw c.mark_at.ensures (mark_behind _ _ c.requires).room

pub returns : goal.returns
returns c = marks _ _ _ _ c.mark_at.ensures one_is c.requires
