-- `script::step` meets its contract: each call by the operation for it. Assumes nothing.
use mathlib.Core.Path.{refl, sym, ap}
use mathlib.Core.List.{List}
use Prim.Native.Nat.{ℕ}
use Rattle.definition.specs.History.{Call}
use Rattle.lbfgsb.specs.Bridge.{replied}
use Rattle.script.proofs.Laws.{changed_shows, read_shows, count_shows, shown_asked, shown_told, shown_entered, shown_saved}
use Rattle.script.proofs.step.Goals as goal

pub returns-in-Start : goal.returns-in-Start
returns-in-Start c =
    let did = c.start.ensures c.args.log.now in
    rw c.in-Start.is
    (changed_shows _ _ _ _ _ _ c.start.result _ _ _ _ refl c.changed.ensures (record { did = did.did; opening = did }))

pub returns-in-Reply : goal.returns-in-Reply
returns-in-Reply c =
    rw c.in-Reply.is
    (changed_shows _ _ _ _ _ _ c.reply.result _ _ _ _ (ap (λ (ws : List ℕ). Call.reply (replied c.in-Reply.reply ws)) (sym c.of-gradient.ensures))
    c.changed-in-Reply.ensures (record { did = c.reply.ensures.did; opening = tt }))

pub returns-in-TakeBack : goal.returns-in-TakeBack
returns-in-TakeBack c =
    rw c.in-TakeBack.is
    (changed_shows _ _ _ _ _ _ c.take_back.result _ _ _ _ refl c.changed-in-TakeBack.ensures (record { did = c.take_back.ensures.did; opening = tt }))

pub returns-in-Restore : goal.returns-in-Restore
returns-in-Restore c =
    rw c.in-Restore.is
    (changed_shows _ _ _ _ _ _ c.restore.result _ _ _ _ (ap Call.restore (sym c.of-record.ensures)) c.changed-in-Restore.ensures
    (record { did = c.restore.ensures.did; opening = c.restore.ensures }))

pub returns-in-Question : goal.returns-in-Question
returns-in-Question c =
    rw c.in-Question.is
    (read_shows _ _ _ _ _ _ _ _ _ _ _ _ refl tt c.read.ensures (shown_asked c.question.result _ _ _ _ _ c.map.ensures.cases)
    (c.question.ensures c.args.log.now))

pub returns-in-Report : goal.returns-in-Report
returns-in-Report c =
    rw c.in-Report.is
    (read_shows _ _ _ _ _ _ _ _ _ _ _ _ refl tt c.read-in-Report.ensures (shown_told c.report.result _ _ _ _ _ c.map-in-Report.ensures.cases)
    (c.report.ensures c.args.log.now))

pub returns-in-Replies : goal.returns-in-Replies
returns-in-Replies c = rw c.in-Replies.is (count_shows _ _ _ _ _ _ _ _ c.read-in-Replies.ensures (c.replies.ensures c.args.log.now))

pub returns-in-Entry : goal.returns-in-Entry
returns-in-Entry c =
    rw c.in-Entry.is
    (read_shows _ _ _ _ _ _ _ _ _ _ _ _ refl tt c.read-in-Entry.ensures (shown_entered c.entry.result _ _ _ _ _ c.map-in-Entry.ensures.cases) c.entry.ensures)

pub returns-in-Save : goal.returns-in-Save
returns-in-Save c =
    rw c.in-Save.is
    (read_shows _ _ _ _ _ _ _ _ _ _ _ _ refl tt c.read-in-Save.ensures (shown_saved c.save.result _ _ _ _ _ c.map-in-Save.ensures.cases) c.save.ensures)
