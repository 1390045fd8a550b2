-- `rebuild::replay_log` meets its contract. Assumes nothing.
use mathlib.Core.Path.{sym, subst}
use Prim.Native.Nat.{◌≤◌, ◌<◌}
use native.Mathlib.Omega.{arith}
use lib.ListN.{length, take}
use lib.Seq.{length-take-le}
use Rattle.fit.specs.State.{most_words}
use Rattle.held.proofs.Test.{ready_facts}
use Rattle.std.specs.Prelude.{Result}
use Rattle.fit.specs.declared.Fit.{Fit}
use Rattle.problem.specs.declared.Refusal.{Refusal}
use Rattle.rebuild.specs.Built.{Markable}
use Rattle.rebuild.proofs.Built.{ready_room, opened_ready, markable_all, stays_by}
use Rattle.rebuild.proofs.replay_log.Goals as goal

pub reset-first-requires : goal.reset-first-requires
reset-first-requires c = ready_room c.args.fit (length c.args.area.now) c.requires.0

pub replay-replayed-requires : goal.replay-replayed-requires
replay-replayed-requires c =
    let r = c.reset-first in
    let k = r.ensures in (
      opened_ready c.args.fit c.requires.0 k,
      k.entries,
      k.words,
    )

pub settle-requires : goal.settle-requires
settle-requires c =
    let r = c.replay-replayed in
    let all = c.all_of-all in
    subst (λ (q : Result Fit Refusal). Markable q (length r.new.area)) (sym all.ensures) (markable_all r.result r.ensures)

pub returns : goal.returns
returns c =
    let a = c.args in
    let r = c.reset-first in
    let p = c.replay-replayed in
    let all = c.all_of-all in
    let q = c.settle in
    let ws = take a.fit.extra.words a.log.now in
    let All-words = length-take-le a.fit.extra.words a.log.now c.requires.1 in
    let fits : length ws ≤ length a.log.now = omega (arith, All-words) in
    let few : length ws < most_words = omega (arith, All-words, (ready_facts a.fit (length a.area.now) c.requires.0).words) in
    stays_by r.ensures {ws = ws} few fits p.result p.new.area q.new.area p.ensures all.result all.ensures q.ensures
