-- `differences::ask_probe` meets its contract: the charge that is made asks, and one that is not ends the fit. Assumes nothing.
use mathlib.Core.Path.{sym, ◌∙◌}
use Rattle.problem.specs.Setups.{limits_of}
use Rattle.counters.proofs.Laws.{left_charges, spent_charges}
use Rattle.differences.proofs.Leads.{charged_leads, spent_leads}
use Rattle.differences.proofs.ask_probe.Goals as goal

pub returns-then-not-charge_value : goal.returns-then-not-charge_value
returns-then-not-charge_value c =
    let a = c.args in
    spent_leads a.numbers a.fit a.i a.side
    (spent_charges (limits_of a.fit.limits) _ (sym c.charge_value.ensures.left ∙ c.if-not-charge_value.true))

pub returns : goal.returns
returns c =
    let a = c.args in
    charged_leads a.numbers a.fit a.i a.side _ c.requires
    (left_charges (limits_of a.fit.limits) _ _ c.charge_value.ensures.counters (sym c.charge_value.ensures.left ∙ c.if-not-charge_value.false))
