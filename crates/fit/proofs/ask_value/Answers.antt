-- `fit::ask_value` meets its contract: the charge says whether the budget lasts. Assumes nothing.
use mathlib.Core.Path.{refl, sym, ◌∙◌}
use Rattle.problem.specs.Setups.{limits_of}
use Rattle.counters.proofs.Laws.{left_charges, spent_charges}
use Rattle.fit.proofs.Laws.{turns_as, charge_asks, charge_ends}
use Rattle.fit.proofs.ask_value.Goals as goal

pub returns-then-charge_value : goal.returns-then-charge_value
returns-then-charge_value c = record {
  shape = refl;
  kept = record { options = refl; extra = refl; settled = λ s. s };
  is = λ v.
      let charged = c.charge_value.ensures in
      charge_asks _ _ _ (left_charges (limits_of c.args.fit.limits) _ _ charged.counters (sym charged.left ∙ c.if-charge_value.true));
}

pub returns-else-charge_value : goal.returns-else-charge_value
returns-else-charge_value c =
    turns_as c.ended.ensures (λ v. charge_ends _ _ (spent_charges (limits_of c.args.fit.limits) _ (sym c.charge_value.ensures.left ∙ c.if-charge_value.false)))
