-- The reply that a fit is advanced by, and the definition's step for it.
use Rattle.std.specs.Prelude.{ℕ, Bool, cond, eqb, List, []}
use Rattle.definition.specs.Machine as M
use Rattle.definition.specs.Driver as D
use Rattle.fit.specs.State.{phase_of}
use Rattle.fit.specs.declared.Fit.{Fit}
use Rattle.driver.specs.declared.Reply.{Reply}
use Rattle.driver.specs.declared.Reply.TheVariants as R

-- the definition's reply, with the words of a gradient beside it
abbrev pub replied : Reply → List ℕ → M.Reply
replied (R.Value w) ws = M.Reply.value w
replied R.Gradient ws = M.Reply.gradient ws
replied R.NotSupplied ws = M.Reply.not_supplied
replied R.GoOn ws = M.Reply.go_on
replied R.Stop ws = M.Reply.stop
replied R.Failure ws = M.Reply.failure

-- the kind of a reply, as the first word of its entry says
abbrev pub entry_kind : Reply → ℕ
entry_kind r = M.reply_kind (replied r [])

-- the reply of a kind, with the word that a value has
abbrev pub reply_at : ℕ → ℕ → Reply
reply_at kind word =
    cond (eqb kind 1) (R.Value word)
    (cond (eqb kind 2) R.Gradient
    (cond (eqb kind 3) R.NotSupplied
    (cond (eqb kind 4) R.GoOn
    (cond (eqb kind 5) R.Stop R.Failure))))

-- the kind of the reply is that of the open question
abbrev pub is_due : Fit → Reply → Bool
is_due t r = M.suits (M.kind_of (phase_of t.phase)) (replied r [])

-- a supplied gradient is complete, where it is due
abbrev pub supplied_in : M.Phase → M.Machine → M.Machine
supplied_in (M.Phase.value w) m = m
supplied_in (M.Phase.gradient w) m = D.complete w m
supplied_in (M.Phase.probe w i side) m = m
supplied_in M.Phase.notice m = m
supplied_in (M.Phase.ended t) m = m

abbrev pub advanced_in : Reply → M.Phase → M.Machine → M.Machine
advanced_in (R.Value w) p m = D.answer_in p m (M.Reply.value w)
advanced_in R.Gradient p m = supplied_in p m
advanced_in R.NotSupplied p m = D.answer_in p m M.Reply.not_supplied
advanced_in R.GoOn p m = D.answer_in p m M.Reply.go_on
advanced_in R.Stop p m = D.answer_in p m M.Reply.stop
advanced_in R.Failure p m = D.answer_in p m M.Reply.failure

-- the machine advanced by a reply; the floats of a supplied gradient stand in the trial's already
abbrev pub advanced : Reply → M.Machine → M.Machine
advanced r m = advanced_in r m.phase m
