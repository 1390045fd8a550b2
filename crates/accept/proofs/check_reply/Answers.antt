-- `accept::check_reply` meets its contract: whether the reply is due, its length, its room. Assumes nothing.
use Prim.Native.Nat.{ℕ, ◌+◌}
use mathlib.Core.Path.{refl, sym, ap, ◌∙◌}
use lib.Dec.{ltb}
use Rattle.std.proofs.lemmas.Result.{err_from_is_err_and}
use Rattle.definition.specs.Problem.{refuse, when}
use Rattle.accept.proofs.Checks.{passed, first_refuses, rest_decides}
use Rattle.accept.proofs.Replying.{entry_size_lem, length_passed, no_room, some_room, said_undue, said_due}
use Rattle.accept.proofs.check_reply.Goals as goal

pub returns-in_err-check_due : goal.returns-in_err-check_due
returns-in_err-check_due c =
    let p = err_from_is_err_and c.from_residual.result c.from_residual.ensures.1 in
    λ a ws e.
    rw (p.1, p.2) (first_refuses _ refl (said_undue c.args.fit a c.args.reply ws _ c.in_err-check_due.ensures refl))

pub returns-in_err-check_length : goal.returns-in_err-check_length
returns-in_err-check_length c =
    let p = err_from_is_err_and c.from_residual-in_err-check_length.result c.from_residual-in_err-check_length.ensures.1 in
    λ a ws e.
    let due = said_due c.args.fit a c.args.reply ws _ c.check_due.ensures c.in_ok-check_due.was in
    rw (p.1, p.2) (first_refuses _ refl (c.in_err-check_length.ensures ws e ∙ due))

pub returns-then-not-has_room : goal.returns-then-not-has_room
returns-then-not-has_room c =
    λ a ws e.
    let sized = passed c.in_ok-check_length.was (c.check_length.ensures ws e) in
    let due = said_due c.args.fit a c.args.reply ws _ c.check_due.ensures c.in_ok-check_due.was in
    let size = c.entry_length.ensures
    ∙ entry_size_lem c.args.fit.shape.n c.args.reply ws (length_passed c.args.fit.shape.n c.args.reply ws sized) in
    no_room c.args.room c.args.fit.extra.words _ (sym c.has_room.ensures ∙ c.if-not-has_room.true)
    ∙ ap (λ (k : ℕ). when (ltb c.args.room (c.args.fit.extra.words + k)) (refuse 12 0 0)) size
    ∙ rest_decides _ (sym due ∙ sized)

pub returns : goal.returns
returns c =
    λ a ws e.
    let sized = passed c.in_ok-check_length.was (c.check_length.ensures ws e) in
    let due = said_due c.args.fit a c.args.reply ws _ c.check_due.ensures c.in_ok-check_due.was in
    let size = c.entry_length.ensures
    ∙ entry_size_lem c.args.fit.shape.n c.args.reply ws (length_passed c.args.fit.shape.n c.args.reply ws sized) in
    some_room c.args.room c.args.fit.extra.words _ (sym c.has_room.ensures ∙ c.if-not-has_room.false)
    ∙ ap (λ (k : ℕ). when (ltb c.args.room (c.args.fit.extra.words + k)) (refuse 12 0 0)) size
    ∙ rest_decides _ (sym due ∙ sized)
