-- `lbfgsb::report` meets its contract: no fit, no value yet, an output too short, the report put. Assumes nothing.
use mathlib.Core.Path.{refl, sym, ◌∙◌}
use Rattle.problem.specs.declared.Refusal.TheVariants.{OutputShort}
use Rattle.lookup.proofs.Saving.{facts}
use Rattle.lbfgsb.proofs.Reading.{report_short, report_put}
use Rattle.lbfgsb.proofs.report.Goals as goal

pub returns-then-out-needed : goal.returns-then-out-needed
returns-then-out-needed c l =
    report_short _ _ l _ (OutputShort c.args.fit.shape.n)
    (sym c.is_held.ensures ∙ c.if-not-is_held.false)
    (sym c.unreported.ensures ∙ c.if-unreported.false)
    c.if-out-needed.true
    refl

pub put_point-requires : goal.put_point-requires
put_point-requires c =
    let f = facts _ _ (sym c.is_held.ensures ∙ c.if-not-is_held.false) in
    (f.ready.sound, c.if-out-needed.false)

pub returns : goal.returns
returns c l =
    report_put _ _ l _ _ _
    (sym c.is_held.ensures ∙ c.if-not-is_held.false)
    (sym c.unreported.ensures ∙ c.if-unreported.false)
    c.if-out-needed.false
    c.outcome_of.ensures
    c.put_point.ensures
