-- Laws of the definition's branches, over plain variables. Assumes nothing.
use mathlib.Core.Path.{◌≡◌, sym, ap, ◌∙◌}
use mathlib.Core.Bool.{Bool, true, false}
use lib.Ieee.{Float}
use Rattle.definition.specs.Vector.{dot, all_finite}
use Rattle.definition.specs.Counters.{Termination, Counters, charge_gradient, charge_iteration}
use Rattle.definition.specs.Search.{Verdict, judge}
use Rattle.definition.specs.Machine.{Place, Phase, Machine, counting, holding, ending}
use Rattle.definition.specs.Driver.{move, by_verdict, judge_trial, measured, complete}

-- ---- the move, once the trial is held

-- m at the notice, with these counters and value held before
abbrev pub noticing : Counters → Float → Machine → Machine
noticing k old m = record {
  terms = m.terms;
  limits = m.limits;
  held = m.held;
  compact = m.compact;
  trial = m.trial;
  direction = m.direction;
  search = m.search;
  right_value = m.right_value;
  before = old;
  counters = k;
  phase = Phase.notice;
}

pub moving : (m : Machine) {k : Counters} → k ≡ charge_iteration m.counters → noticing k m.held.f (holding m.trial m) ≡ move m
unfolding move
moving m e = rw e

-- ---- a trial is judged, by the slope there

pub judged : (m : Machine) {slope : Float} {r v : Verdict} → slope ≡ dot m.terms.n m.trial.g m.direction
    → r ≡ judge m.search m.held.f m.trial.f slope → r ≡ v → by_verdict m v ≡ judge_trial m
unfolding judge_trial
judged m e f g = rw (← e) (ap (by_verdict m) (sym g ∙ f))

-- ---- a gradient is counted, then looked at

module _ (w : Place) (m : Machine) {k : Counters} {t : Bool} (e : k ≡ charge_gradient m.counters) (f : t ≡ all_finite m.terms.n m.trial.g) where
  pub completed : t ≡ true → measured w (counting k m) ≡ complete w m
  unfolding complete
  completed h = rw (e, ← f, h)

  pub completed_nonfinite : t ≡ false → ending Termination.nonfinite (counting k m) ≡ complete w m
  unfolding complete
  completed_nonfinite h = rw (e, ← f, h)
