-- Laws of the definition's branches after a notice, by its tests in order. Assumes nothing.
use mathlib.Core.Path.{◌≡◌}
use mathlib.Core.Bool.{true, false}
use Rattle.definition.specs.Counters.{Termination, iterations_spent}
use Rattle.definition.specs.Machine.{Machine, ending}
use Rattle.definition.specs.Driver.{gradient_small, decrease_small, iterate, on_go_on}

module _ (m : Machine) where
  pub go_on_spent : iterations_spent m.limits m.counters ≡ true → ending Termination.max_iterations m ≡ on_go_on m
  unfolding on_go_on
  go_on_spent e = rw e

  module _ (e : iterations_spent m.limits m.counters ≡ false) where
    pub go_on_flat : gradient_small m ≡ true → ending Termination.gtol m ≡ on_go_on m
    unfolding on_go_on
    go_on_flat g = rw (e, g)

    pub go_on_level : gradient_small m ≡ false → decrease_small m ≡ true → ending Termination.ftol m ≡ on_go_on m
    unfolding on_go_on
    go_on_level g d = rw (e, g, d)

    pub go_on_again : gradient_small m ≡ false → decrease_small m ≡ false → iterate m ≡ on_go_on m
    unfolding on_go_on
    go_on_again g d = rw (e, g, d)
