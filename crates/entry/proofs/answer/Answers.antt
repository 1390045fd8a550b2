-- `entry::answer` meets its contract: the point of the open question, or the end's. Assumes nothing.
use mathlib.Core.Path.{◌∙◌}
use native.Mathlib.Omega.{arith}
use Rattle.definition.specs.History.{History}
use Rattle.definition.specs.Book.{run_of}
use Rattle.entry.proofs.Laws.{question_answered, asked_nothing, asked_is, asked_put, fit_ended}
use Rattle.entry.proofs.answer.Goals as goal

pub returns-in_default : goal.returns-in_default
returns-in_default c l b h =
    let k = c.question in
    let nothing = asked_nothing (run_of b) _ _ k.result _ c.unwrap_or.ensures c.in_default.is
    ((k.ensures l).said (History.fit b) h ∙ question_answered _ b h.accepted (omega arith)) in
    fit_ended (run_of b) _ _ _ _ nothing (c.ended.ensures l b h nothing)

pub returns : goal.returns
returns c l b h =
    let k = c.question in
    asked_put (run_of b) _ _ k.result _ _ _ _ _ _ (asked_is (run_of b) c.args.fit.shape.n k.new.out _ _ _ c.unwrap_or.ensures c.in-Some.is) c.number.ensures
    ((k.ensures l).said (History.fit b) h ∙ question_answered _ b h.accepted (omega arith))
    c.put_point.ensures
