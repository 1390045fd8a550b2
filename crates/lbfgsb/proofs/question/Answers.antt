-- `lbfgsb::question` meets its contract: no fit, a fit that has ended, an output too short, the question put. Assumes nothing.
use mathlib.Core.Path.{refl, sym, ap, ◌∙◌}
use Rattle.problem.specs.declared.Refusal.TheVariants.{OutputShort}
use Rattle.fit.specs.State.{kind_number}
use Rattle.lookup.proofs.Saving.{facts}
use Rattle.lbfgsb.proofs.Reading.{question_short, question_put, some_asked, number_above}
use Rattle.lbfgsb.proofs.question.Goals as goal

pub returns-then-out-needed : goal.returns-then-out-needed
returns-then-out-needed c l =
    question_short _ _ l _ (OutputShort c.args.fit.shape.n)
    (sym c.is_held.ensures ∙ c.if-not-is_held.false)
    (some_asked _ _ c.in-Some.is c.asked.ensures)
    c.if-out-needed.true
    refl

pub put_question-requires : goal.put_question-requires
put_question-requires c =
    let f = facts _ _ (sym c.is_held.ensures ∙ c.if-not-is_held.false) in
    (f.ready.sound, f.within, c.if-out-needed.false)

pub returns : goal.returns
returns c l =
    question_put _ _ l _ _ _
    (sym c.is_held.ensures ∙ c.if-not-is_held.false)
    (number_above c.in-Some.kind)
    c.if-out-needed.false
    (ap kind_number (sym c.in-Some.is) ∙ c.asked.ensures)
    c.put_question.ensures
