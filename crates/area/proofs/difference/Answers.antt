-- `area::difference` meets its contract. Assumes nothing.
use borrow.Author.Rules.{rules}
use Rattle.definition.specs.Number.{minus}
use Rattle.area.specs.Area.{difference_of, rowwise}
use Rattle.area.proofs.difference.Goals as goal

pub returns : goal.returns
unfolding difference_of rowwise
returns c = c.set_each.ensures (λ i w. minus (w c.args.left) (w c.args.right)) (λ a i y l h p. search rules)
