-- `judge::complete` meets its contract: the gradient is counted, and its words decide. Assumes nothing.
use mathlib.Core.Path.{refl}
use Rattle.area.proofs.Laws.{saved_refl}
use Rattle.fit.proofs.Laws.{stepped, steps_from}
use Rattle.judge.proofs.Laws.{completed, completed_nonfinite}
use Rattle.judge.proofs.complete.Goals as goal

pub returns-then-all_finite : goal.returns-then-all_finite
returns-then-all_finite c =
    steps_from c.measured.ensures refl (record { options = refl; extra = refl; settled = λ s. s })
    (completed _ _ c.charge_gradient.ensures c.all_finite.ensures c.if-all_finite.true)

pub returns-else-all_finite : goal.returns-else-all_finite
returns-else-all_finite c =
    stepped c.ended.ensures refl (record { options = refl; extra = refl; settled = λ s. s }) refl saved_refl
    (completed_nonfinite _ _ c.charge_gradient.ensures c.all_finite.ensures c.if-all_finite.false)
