-- `trial::put_trial` meets its contract. Assumes nothing.
use borrow.Author.Rules.{rules}
use Rattle.definition.specs.Search.{trial_point}
use Rattle.area.specs.Area.{rowwise}
use Rattle.trial.specs.Words.{trial_in}
use Rattle.trial.proofs.put_trial.Goals as goal

pub returns : goal.returns
unfolding trial_point rowwise
returns c = c.set_each.ensures (λ i. trial_in c.args.alpha) (λ a i y l h p. search rules)
