-- `script::run_script` meets its contract: one call more with each turn. Assumes nothing.
use Rattle.std.proofs.Common.{◌≡◌, length, take}
use Rattle.lbfgsb.specs.Words.{words}
use Rattle.script.specs.Script.{given_of, shown, Runs}
use Rattle.script.proofs.Laws.{calls_in}
use Rattle.script.proofs.run_script.Given as goal

abbrev pub invariant-loop-op : goal.invariant-loop-op
invariant-loop-op l =
    let first = l.initial in
    (length l.point ≡ length first.point) × (length l.found ≡ length first.found) × (length l.bytes ≡ length first.bytes)
    × Runs (calls_in (given_of l.inputs (length first.point) (length first.found) (length first.bytes)) (take l.op-index l.calls))
    (words first.ran.fit first.area first.log) (words l.ran.fit l.area l.log) (shown l.ran.last l.ran.fit.shape.n l.point l.found l.bytes)
