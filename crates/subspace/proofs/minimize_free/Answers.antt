-- `subspace::minimize_free` meets its contract: residual, steps and target in turn. Assumes nothing.
use mathlib.Core.Bool.{not}
use mathlib.Core.Path.{ap}
use borrow.Author.Rules.{rules}
use Rattle.compact.proofs.Models.{assembled, prepared}
use Rattle.subspace.proofs.Makes.{model_kept, without_steps, targets}
use Rattle.subspace.proofs.minimize_free.Goals as goal

pub residual-requires : goal.residual-requires
residual-requires c = (c.requires.0, prepared c.requires.1)

pub steps-requires : goal.steps-requires
steps-requires c =
    (search rules, assembled (model_kept c.residual.ensures c.requires.1))

pub returns-then-not-steps : goal.returns-then-not-steps
returns-then-not-steps c =
    without_steps _ _ _ _ _ _ _ c.residual.ensures (ap not c.if-not-residual.false) c.steps.ensures (ap not c.if-not-steps.true)

pub returns : goal.returns
returns c =
    targets _ _ _ _ _ _ _ _ _ c.residual.ensures (ap not c.if-not-residual.false) c.steps.ensures (ap not c.if-not-steps.false) c.move_by_share.ensures
