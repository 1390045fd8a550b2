-- `Counters` and `Termination`: what is counted, and how a fit ends.
use Rattle.std.specs.Prelude.{ℕ, ◌+◌, Bool, ltb, leb}
use Rattle.definition.specs.Problem.{Limits}

-- `Termination`, and the objective's failure
pub data Termination : Type 0 where
  gtol ftol max_iterations max_evaluations cancelled nonfinite line_search_failed objective_failed : Termination

-- document 01's numbers
abbrev pub status_number : Termination → ℕ
status_number Termination.gtol = 1
status_number Termination.ftol = 2
status_number Termination.max_iterations = 3
status_number Termination.max_evaluations = 4
status_number Termination.cancelled = 5
status_number Termination.nonfinite = 6
status_number Termination.line_search_failed = 7
status_number Termination.objective_failed = 8

-- iterations, values and gradients charged
pub record Counters : Type 0 where
  pub nit : ℕ
  pub nfev : ℕ
  pub njev : ℕ

-- the first value question is charged on opening
abbrev pub first_counters : Counters
first_counters = record { nit = 0; nfev = 1; njev = 0 }

-- a value question is charged when it is raised, and only while the budget lasts
abbrev pub value_left : Limits → Counters → Bool
value_left l k = ltb k.nfev l.maxfev

abbrev pub charge_value : Counters → Counters
charge_value k = record { nit = k.nit; nfev = k.nfev + 1; njev = k.njev }

-- a gradient is charged when it is supplied, or when a differenced one is complete
abbrev pub charge_gradient : Counters → Counters
charge_gradient k = record { nit = k.nit; nfev = k.nfev; njev = k.njev + 1 }

-- an iteration is charged before its notice, and its budget is tested after it
abbrev pub charge_iteration : Counters → Counters
charge_iteration k = record { nit = k.nit + 1; nfev = k.nfev; njev = k.njev }

abbrev pub iterations_spent : Limits → Counters → Bool
iterations_spent l k = leb l.maxiter k.nit
