-- `subspace::moved` meets its contract. Assumes nothing.
use borrow.Author.Rules.{rules}
use Rattle.subspace.specs.State.{moved_in}
use Rattle.subspace.proofs.Makes.{moves}
use Rattle.subspace.proofs.moved.Goals as goal

pub returns : goal.returns
returns c =
    moves _ _ _ _ _ (c.set_each.ensures (λ i. moved_in c.args.alpha) (λ a i y l h p. search rules)) c.all_finite.ensures
