-- The definition's counters and terminations, read off the structs of the code.
use Rattle.std.specs.Prelude.{ℕ, ◌^◌, Bool, cond}
use Rattle.std.specs.Prelude.{Option, None, Some, option_map}
use Rattle.definition.specs.Problem as P
use Rattle.definition.specs.Counters as C
use Rattle.counters.specs.declared.Counters.{Counters}
use Rattle.counters.specs.declared.Termination.{Termination}
use Rattle.counters.specs.declared.Termination.TheVariants.{GTol, FTol, MaxIterations, MaxEvaluations, Cancelled}
use Rattle.counters.specs.declared.Termination.TheVariants.{Nonfinite, LineSearchFailed, ObjectiveFailed}

abbrev pub counters_of : Counters → C.Counters
counters_of counters = record { nit = counters.nit; nfev = counters.nfev; njev = counters.njev }

abbrev pub termination_of : Termination → C.Termination
termination_of GTol = C.Termination.gtol
termination_of FTol = C.Termination.ftol
termination_of MaxIterations = C.Termination.max_iterations
termination_of MaxEvaluations = C.Termination.max_evaluations
termination_of Cancelled = C.Termination.cancelled
termination_of Nonfinite = C.Termination.nonfinite
termination_of LineSearchFailed = C.Termination.line_search_failed
termination_of ObjectiveFailed = C.Termination.objective_failed

-- no count is near where a sum would wrap
abbrev pub most_counted : ℕ
most_counted = 2 ^ 62

-- ---- a value question, charged only while the budget lasts

abbrev pub value_charged : P.Limits → C.Counters → C.Counters
value_charged limits counters = cond (C.value_left limits counters) (C.charge_value counters) counters

abbrev pub charged_if : Bool → C.Counters → Option C.Counters
charged_if left counters = cond left (Some counters) None

abbrev pub value_charge : P.Limits → C.Counters → Option C.Counters
value_charge limits counters = charged_if (C.value_left limits counters) (C.charge_value counters)

abbrev pub charge_of : Option Counters → Option C.Counters
charge_of charge = option_map counters_of charge
