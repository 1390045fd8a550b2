-- `subspace::reduced` meets its contract: the block, less the sums by theta. Assumes nothing.
use Rattle.std.proofs.Common.{rules}
use Rattle.subspace.specs.State.{reduced_by}
use Rattle.subspace.proofs.Grid.{reduced_are}
use Rattle.subspace.proofs.reduced.Goals as goal

pub returns : goal.returns
returns c =
    let m = c.args.model.now in
    reduced_are _ c.requires.1 c.sums-matrix.ensures (c.change_each.ensures (reduced_by m.theta m.block) (λ i j x y h l p. search rules))
