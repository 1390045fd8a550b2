-- `text::report` meets its contract: what is refused, or the report of the fit. Assumes nothing.
use Rattle.std.proofs.Common.{ap, sym, ◌∙◌, arith, length-take-le, [], Result}
use Rattle.std.proofs.lemmas.Result.{err_from_is_err_and}
use Rattle.problem.specs.declared.Refusal.{Refusal}
use Rattle.question.specs.declared.Outcome.{Outcome}
use Rattle.lbfgsb.specs.Bridge.{told}
use Rattle.text.proofs.Answers.{answered, fit_printed}
use Rattle.text.proofs.report.Goals as goal

pub slice_bounds-result-end : goal.slice_bounds-result-end
slice_bounds-result-end c =
    let few = (fit_printed _ c.read.result _ _ _ c.report.result _ _ c.read.ensures c.in_ok-fit.was c.requires.2 c.report.ensures).0 in
    sym (length-take-le _ _ (omega (arith, few, c.requires.2, (c.report.ensures []).written.sized)))

pub returns-clause-shown : goal.returns-clause-shown
returns-clause-shown c =
    let fit = fit_printed _ c.read.result _ _ _ c.report.result _ _ c.read.ensures c.in_ok-fit.was c.requires.2 c.report.ensures in
    ap (λ (t : Result Outcome Refusal). answered (told t c.in_ok-fit.fit.shape.n c.report.new.out)) (sym c.in_ok-outcome.was) ∙ fit.1

pub returns-in_err-outcome-clause-shown : goal.returns-in_err-outcome-clause-shown
returns-in_err-outcome-clause-shown c =
    let fit = fit_printed _ c.read.result _ _ _ c.report.result _ _ c.read.ensures c.in_ok-fit.was c.requires.2 c.report.ensures in
    let is = ap (λ (t : Result Outcome Refusal). answered (told t c.in_ok-fit.fit.shape.n c.report.new.out)) (sym c.in_err-outcome.was) ∙ fit.1 in
    let p = err_from_is_err_and c.from_residual-in_err-outcome.result c.from_residual-in_err-outcome.ensures.1 in
    rw (p.1, p.2) is
