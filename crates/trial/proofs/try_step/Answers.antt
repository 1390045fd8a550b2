-- `trial::try_step` meets its contract: the trial point stands in the area, and its value is asked. Assumes nothing.
use Prim.Native.Nat.{◌<◌}
use mathlib.Core.Path.{refl}
use native.Mathlib.Omega.{arith}
use Rattle.definition.specs.Driver.{try_step}
use Rattle.area.specs.Area.{first_pair, vector_trial}
use Rattle.area.proofs.Laws.{saved_refl, saved_upd}
use Rattle.fit.proofs.Laws.{stepped, pairs_kept}
use Rattle.trial.proofs.try_step.Goals as goal

pub returns : goal.returns
unfolding try_step
returns c =
    stepped c.ask_value.ensures refl (record { options = refl; extra = refl; settled = λ s. c.requires.1 })
    c.put_trial.ensures (saved_upd vector_trial _ (omega arith) (λ e. omega arith) saved_refl)
    (let l : vector_trial < first_pair = omega arith in rw pairs_kept)
