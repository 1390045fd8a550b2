-- `judge::move_on` meets its contract: the trial is held, the iteration charged, and notice given. Assumes nothing.
use mathlib.Core.Path.{refl}
use Rattle.counters.specs.Counts.{counters_of}
use Rattle.fit.proofs.Laws.{still, steps_as, steps_then}
use Rattle.judge.proofs.Laws.{noticing, moving}
use Rattle.judge.proofs.move_on.Goals as goal

pub returns : goal.returns
returns c =
    let g = noticing (counters_of c.charge_iteration.new.self) c.args.fit.value in
    steps_as
    (steps_then {G = g} c.hold.ensures
    (still {F = g} (record { shape = refl; kept = record { options = refl; extra = refl; settled = λ s. s }; is = λ v. refl }) refl))
    (moving _ c.charge_iteration.ensures)
