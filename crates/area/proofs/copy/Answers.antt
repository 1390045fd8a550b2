-- `area::copy` meets its contract. Assumes nothing.
use mathlib.Core.Path.{◌∙◌}
use borrow.Author.Rules.{rules}
use Rattle.area.proofs.Laws.{length-view, rowwise_copies}
use Rattle.area.proofs.copy.Goals as goal

pub returns : goal.returns
returns c = c.set_each.ensures (λ i w. w c.args.from) (λ a i y l h p. search rules) ∙ rowwise_copies _ _ _ _ (length-view _ _ _ c.requires.1)
