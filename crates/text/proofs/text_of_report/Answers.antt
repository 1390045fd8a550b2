-- `text::text_of_report` meets its contract: the lines of the counts and the value, then a line a coordinate. Assumes nothing.
use Rattle.std.proofs.Common.{[], ◌≡◌, ap, arith, length, rules}
use Rattle.text.proofs.Laws.{header, more}
use Rattle.text.proofs.text_of_report.Goals as goal

pub loop-x-init : goal.loop-x-init
loop-x-init c =
    let status = c.push_count.ensures in
    let nit = c.push_count-2.ensures in
    let nfev = c.push_count-3.ensures in
    let njev = c.push_count-4.ensures in
    let value = c.push_float.ensures in
    let new : c.new-text.result.items ≡ [] = search rules in (
      header c.args.lines.outcome c.status.ensures new status.items nit.items nfev.items njev.items value.items,
      omega (arith, ap length new, status.len, nit.len, nfev.len, njev.len, value.len),
    )

pub loop-x-preserved : goal.loop-x-preserved
loop-x-preserved c =
    let before = c.loop-x.invariant in
    let line = c.push_float-in-loop-x.ensures in
    (more _ _ _ _ c.loop-x-test.true before.0 line.items, omega (arith, line.len, before.1))
