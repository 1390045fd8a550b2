-- `text::text_of_report` meets its contract: the lines so far are those of the counts, the value and the coordinates so far. Assumes nothing.
use Rattle.std.proofs.Common.{◌≡◌, ◌+◌, ◌*◌, ◌≤◌, take, length}
use Rattle.question.specs.Reports.{report_of}
use Rattle.text.specs.Text.{report_lines}
use Rattle.text.proofs.text_of_report.Given as goal

abbrev pub invariant-loop-x : goal.invariant-loop-x
invariant-loop-x l =
    (l.text.items ≡ report_lines (report_of l.lines.outcome (take l.x-index l.x-items))) × (length l.text.items ≤ 126 + 19 * l.x-index)
