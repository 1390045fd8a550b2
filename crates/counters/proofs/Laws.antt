-- Laws of a value question's charge: what it tells its caller. Assumes nothing.
use mathlib.Core.Path.{◌≡◌, refl}
use mathlib.Core.Bool.{Bool, true, false}
use Rattle.std.specs.Prelude.{None, Some}
use Rattle.definition.specs.Problem.{Limits}
use Rattle.definition.specs.Counters.{Counters, value_left, charge_value}
use Rattle.counters.specs.Counts.{charged_if, value_charged, value_charge}

-- A charge that is made says that the budget lasted; one that is not, that it was spent.
pub charge_made : (l : Limits) (k r : Counters) → Some r ≡ value_charge l k → (value_left l k ≡ true) × (r ≡ charge_value k)
charge_made l k r e = go (value_left l k) e
  where
    go : (left : Bool) → Some r ≡ charged_if left (charge_value k) → (left ≡ true) × (r ≡ charge_value k)
    go true e = (refl, cc)
    go false e = (cc, cc)

pub charge_spent : (l : Limits) (k : Counters) → None ≡ value_charge l k → value_left l k ≡ false
charge_spent l k e = go (value_left l k) e
  where
    go : (left : Bool) → None ≡ charged_if left (charge_value k) → left ≡ false
    go true e = cc
    go false e = refl

-- The same the other way, for counters that were lent.
pub left_charges : (l : Limits) (k r : Counters) → r ≡ value_charged l k → value_left l k ≡ true → Some r ≡ value_charge l k
left_charges l k r e h = rw e (rw h refl)

pub spent_charges : (l : Limits) (k : Counters) → value_left l k ≡ false → None ≡ value_charge l k
spent_charges l k h = rw h refl
