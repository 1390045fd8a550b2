-- `lbfgsb::reply` meets its contract: refused, or kept. Assumes nothing.
use mathlib.Core.Path.{◌≡◌, refl, sym, ◌∙◌}
use borrow.Author.Rules.{rules}
use lib.ListN.{length}
use Rattle.std.proofs.lemmas.Result.{err_from_is_err_and}
use Rattle.held.proofs.Test.{ready_facts, held_ready}
use Rattle.lbfgsb.specs.Words.{words}
use Rattle.lbfgsb.specs.Bridge.{replied}
use Rattle.accept.proofs.Checks.{passed, refused}
use Rattle.lbfgsb.proofs.Answers.{reply_refused, reply_advanced}
use Rattle.lbfgsb.proofs.reply.Goals as goal

pub check_reply-requires : goal.check_reply-requires
check_reply-requires c =
    (ready_facts c.args.fit (length c.args.area.now)
    (held_ready c.args.fit c.args.area.now (sym c.is_held.ensures ∙ c.if-not-is_held.false))).ready.n

pub returns-in_err-check_reply : goal.returns-in_err-check_reply
returns-in_err-check_reply c =
    let p = err_from_is_err_and c.from_residual.result c.from_residual.ensures.1 in
    rw (p.1, p.2)
    (reply_refused (replied c.args.said c.args.gradient.now) (words c.args.fit c.args.area.now c.args.log.now) _
    (sym c.is_held.ensures ∙ c.if-not-is_held.false)
    (refused refl (c.in_err-check_reply.ensures c.args.area.now c.args.gradient.now refl)))

pub keep-requires : goal.keep-requires
keep-requires c = (
  held_ready c.args.fit c.args.area.now (sym c.is_held.ensures ∙ c.if-not-is_held.false),
  passed c.in_ok-check_reply.was (c.check_reply.ensures c.args.area.now c.args.gradient.now refl),
)

pub returns : goal.returns
returns c =
    let k = c.keep in
    let z : length k.new.area ≡ length c.args.area.now = search rules in
    reply_advanced (replied c.args.said c.args.gradient.now) c.args.fit k.result c.args.area.now _ c.args.log.now _
    (sym c.is_held.ensures ∙ c.if-not-is_held.false)
    (passed c.in_ok-check_reply.was (c.check_reply.ensures c.args.area.now c.args.gradient.now refl)) z k.ensures.0
    k.ensures.1
