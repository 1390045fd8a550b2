-- `accept::advanced` meets its contract: the gradient's words stored, the fit advanced, marked and counted. Assumes nothing.
use native.Mathlib.Omega.{arith}
use mathlib.Core.Path.{◌≡◌, ap, ◌∙◌}
use borrow.Author.Rules.{rules}
use lib.ListN.{length}
use Rattle.definition.specs.Log.{entry_words}
use Rattle.fit.proofs.Laws.{first_room}
use Rattle.held.specs.Test.{shape_held}
use Rattle.held.proofs.Test.{ready_facts, shape_again}
use Rattle.driver.specs.Replies.{replied}
use Rattle.accept.proofs.Replying.{due_long, entry_size_lem, entry_few, advances}
use Rattle.accept.proofs.advanced.Goals as goal

pub put_gradient-requires : goal.put_gradient-requires
put_gradient-requires c = (
  first_room (ready_facts c.args.fit (length c.args.area.now) c.requires.0).ready.sound,
  due_long c.args.fit c.args.area.now c.args.reply c.args.gradient.now c.requires.1,
)

pub advance-next-requires : goal.advance-next-requires
advance-next-requires c =
    let z : length c.put_gradient.new.area ≡ length c.args.area.now = search rules in
    let f = ready_facts c.args.fit (length c.args.area.now) c.requires.0 in
    (rw z f.ready, f.within)

pub mark-requires : goal.mark-requires
mark-requires c =
    let z : length c.advance-next.new.area ≡ length c.args.area.now = search rules in
    let f = ready_facts c.args.fit (length c.args.area.now) c.requires.0 in
    let k = c.advance-next.ensures in
    ap (shape_held c.advance-next.result.shape) z
    ∙ shape_again c.args.fit.shape c.advance-next.result.shape (length c.args.area.now) f.shape k.n k.m (k.sound _ f.ready.sound)

pub entry_length-requires : goal.entry_length-requires
entry_length-requires c =
    let n = (ready_facts c.args.fit (length c.args.area.now) c.requires.0).ready.n in
    omega arith

pub counted-requires : goal.counted-requires
counted-requires c =
    let f = ready_facts c.args.fit (length c.args.area.now) c.requires.0 in
    let k = c.advance-next.ensures.kept in
    let few = entry_few c.args.fit.shape.n c.args.reply f.ready.n in
    rw (k.extra, c.entry_length.ensures) (omega (arith, f.entries), omega (arith, f.words, few))

pub returns : goal.returns
returns c =
    let z : length c.advance-next.new.area ≡ length c.args.area.now = search rules in
    let e : c.entry_length.result ≡ length (entry_words (replied c.args.reply c.args.gradient.now)) =
    c.entry_length.ensures
    ∙ entry_size_lem c.args.fit.shape.n c.args.reply c.args.gradient.now
    (due_long c.args.fit c.args.area.now c.args.reply c.args.gradient.now c.requires.1) in
    let f = ready_facts c.args.fit (length c.args.area.now) c.requires.0 in
    rw c.counted.ensures
    (advances c.args.fit c.args.area.now _ c.args.reply c.args.gradient.now c.advance-next.result _ _ _ f.ready.sound f.within
    c.requires.1
    c.put_gradient.ensures c.advance-next.ensures z c.mark.ensures e)
