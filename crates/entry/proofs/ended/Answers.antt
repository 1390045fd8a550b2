-- `entry::ended` meets its contract: nothing after a failure, and else the point of the report. Assumes nothing.
use mathlib.Core.Path.{◌∙◌}
use native.Mathlib.Omega.{arith}
use Rattle.definition.specs.History.{History}
use Rattle.definition.specs.Book.{run_of}
use Rattle.entry.proofs.Laws.{report_answered, end_failed, end_put}
use Rattle.entry.proofs.ended.Goals as goal

pub returns-in_default : goal.returns-in_default
returns-in_default c l b h e =
    let k = c.report in
    end_failed (run_of b) _ _ _ _ e k.result _ c.in_default.is
    ((k.ensures l).said (History.fit b) h ∙ report_answered _ b h.accepted (omega arith))

pub returns : goal.returns
returns c l b h e =
    let k = c.report in
    end_put (run_of b) _ _ _ _ e k.result _ _ _ c.in-Ok.is
    ((k.ensures l).said (History.fit b) h ∙ report_answered _ b h.accepted (omega arith))
    c.put_point.ensures
