-- `replay::replay` meets its contract: at each turn what is reached is the definition's reading of as many entries. Assumes nothing.
use mathlib.Core.Path.{◌≡◌}
use mathlib.Core.Logic.{inl, inr}
use native.Mathlib.Omega.{arith}
use lib.ListN.{length}
use Rattle.std.proofs.lemmas.Result.{err_from_is_err_and}
use Rattle.replay.proofs.Laws.{reached_first, reached_more, reached_run, reached_done, reached_refused, took_more}
use Rattle.replay.proofs.Runs.{run_least}
use Rattle.replay.proofs.replay.Goals as goal

pub loop-reached-init : goal.loop-reached-init
loop-reached-init c = let p = c.requires in reached_first _ _ _ _ _ p.0 p.1 p.2

pub returns-in_err-taken : goal.returns-in_err-taken
returns-in_err-taken c =
    let p = err_from_is_err_and c.from_residual.result c.from_residual.ensures.1 in
    let size : length c.replay_entry.new.area ≡ length c.loop-reached.area = omega arith in
    rw (p.1, p.2) (reached_refused _ c.loop-reached.invariant c.if-reached-limit.true size c.in_err-taken.ensures)

pub loop-reached-smaller : goal.loop-reached-smaller
loop-reached-smaller c =
    omega (arith, took_more c.in_ok-taken.ensures, run_least c.after_probes-reached.ensures, c.loop-reached-test.true, c.words.ensures)

pub loop-reached-preserved : goal.loop-reached-preserved
loop-reached-preserved c =
    let size : length c.replay_entry.new.area ≡ length c.loop-reached.area = omega arith in
    reached_run (reached_more c.loop-reached.invariant c.if-reached-limit.true size c.in_ok-taken.ensures) c.after_probes-reached.ensures

pub returns-else-reached-limit : goal.returns-else-reached-limit
returns-else-reached-limit c =
    let h = c.loop-reached.invariant in reached_done h (inr (omega (arith, h.few, c.if-reached-limit.false)))

pub returns-after-loop-reached : goal.returns-after-loop-reached
returns-after-loop-reached c =
    let h = c.loop-reached.invariant in reached_done h (inl (omega (arith, h.words, c.loop-reached-test.false, c.words.ensures)))
