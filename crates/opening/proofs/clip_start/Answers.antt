-- `opening::clip_start` meets its contract. Assumes nothing.
use borrow.Author.Rules.{rules}
use Rattle.definition.specs.Number.{clamp}
use Rattle.area.specs.Area.{rowwise, vector_x0, vector_lower, vector_upper}
use Rattle.opening.proofs.clip_start.Goals as goal

pub returns : goal.returns
unfolding rowwise
returns c = c.set_each.ensures (λ i w. clamp (w vector_x0) (w vector_lower) (w vector_upper)) (λ a i y l h p. search rules)
