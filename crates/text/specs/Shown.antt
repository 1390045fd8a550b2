-- What a report's answer prints.
use Rattle.std.specs.Prelude.{◌≤◌, length, Result, Ok, Err}
use Rattle.definition.specs.Programs.{Printed, input_coordinates}
use Rattle.problem.specs.declared.Refusal.{Refusal}
use Rattle.problem.specs.Setups.{refusal_of}
use Rattle.question.specs.Reports.{report_of}
use Rattle.text.specs.declared.Lines.{Lines}

abbrev pub printed_as : Result Lines Refusal → Printed
printed_as (Ok r) = Printed.lines (report_of r.outcome r.point.now)
printed_as (Err c) = Printed.refused (refusal_of c).number

-- a report has no more coordinates than an input
abbrev pub FewLines : Result Lines Refusal → Type 0
FewLines (Ok r) = length r.point.now ≤ input_coordinates
FewLines (Err c) = Unit {0}
