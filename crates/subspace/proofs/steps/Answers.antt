-- `subspace::steps` meets its contract: without pairs, without weights, and with them. Assumes nothing.
use mathlib.Core.Path.{sym, ◌∙◌}
use borrow.Author.Rules.{rules}
use Rattle.subspace.specs.State.{plain_in, weighted_in}
use Rattle.subspace.proofs.Makes.{plain, by_weights, no_steps, with_steps}
use Rattle.subspace.proofs.steps.Goals as goal

pub returns-then-model-eq0 : goal.returns-then-model-eq0
returns-then-model-eq0 c =
    let theta = c.args.model.now.theta in
    plain _ _ _ _ c.if-model-eq0.true (c.set_each.ensures (λ i. plain_in theta) (λ a i y l h p. search rules))

pub returns-in_default : goal.returns-in_default
returns-in_default c = no_steps _ _ _ (by_weights _ _ _ _ c.if-model-eq0.false (sym c.in_default.is ∙ c.weights.ensures))

pub returns : goal.returns
returns c =
    let theta = c.args.model.now.theta in
    with_steps _ _ _ _ _ c.in-Some.weights (by_weights _ _ _ _ c.if-model-eq0.false (sym c.in-Some.is ∙ c.weights.ensures)) c.corrections.ensures
    (c.set_each-2.ensures (λ i. weighted_in theta) (λ a i y l h p. search rules))
