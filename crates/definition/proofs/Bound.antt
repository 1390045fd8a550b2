-- There are at most 2 * maxfev + maxiter replies, with that many no question is open, and after an ending nothing is due: from the counts. Assumes nothing.
use Prim.Native.Nat.{◌+◌, ◌*◌, ◌≤◌}
use native.Mathlib.Omega.{arith}
use mathlib.Core.Path.{◌≡◌, refl}
use mathlib.Core.Bool.{cond}
use mathlib.Core.List.{List, [], ◌∷◌}
use Rattle.std.specs.Prelude.{None}
use lib.ListN.{length}
use Rattle.definition.specs.Problem.{Setup, refuse, limits_of}
use Rattle.definition.specs.Counters.{Termination}
use Rattle.definition.specs.Machine.{Reply, Phase, Machine, is_value, is_gradient, is_notice, is_failure, check_due, question_in, question}
use Rattle.definition.specs.Driver.{run}
use Rattle.definition.specs.Replies.{Accepted, Due, count_of, open_of}
use Rattle.definition.proofs.Turns.{none_suits}
use Rattle.definition.proofs.Counts.{opens, counted, failures}

-- every reply is of one kind
one_kind : (r : Reply) → cond (is_value r) 1 0 + cond (is_gradient r) 1 0 + cond (is_notice r) 1 0 + cond (is_failure r) 1 0 ≡ 1
one_kind (Reply.value v) = refl
one_kind (Reply.gradient ws) = refl
one_kind Reply.not_supplied = refl
one_kind Reply.go_on = refl
one_kind Reply.stop = refl
one_kind Reply.failure = refl

kinds : (rs : List Reply) → length rs ≡ count_of is_value rs + count_of is_gradient rs + count_of is_notice rs + count_of is_failure rs
unfolding count_of
kinds [] = refl
kinds (r ∷ rs) = omega (arith, kinds rs, one_kind r)

closed : (m : Machine) (p : Phase) → opens 1 p + opens 2 p + opens 3 p ≡ 0 → question_in m p ≡ None
closed m (Phase.value w) e = absurd (omega arith)
closed m (Phase.gradient w) e = absurd (omega arith)
closed m (Phase.probe w i side) e = absurd (omega arith)
closed m Phase.notice e = absurd (omega arith)
closed m (Phase.ended t) e = refl

module _ (s : Setup) (rs : List Reply) (accepted : Accepted s) (due : Due s rs) where
  -- an open question counts as its reply
  replies_and_question : length rs + open_of 1 (run s rs) + open_of 2 (run s rs) + open_of 3 (run s rs) ≤ 2 * (limits_of s).maxfev + (limits_of s).maxiter
  replies_and_question = let h = counted s rs accepted due in omega (arith, kinds rs, failures s rs due)

  pub replies_bounded : length rs ≤ 2 * (limits_of s).maxfev + (limits_of s).maxiter
  replies_bounded = omega (arith, replies_and_question)

  pub ended_with_most_replies : length rs ≡ 2 * (limits_of s).maxfev + (limits_of s).maxiter → question (run s rs) ≡ None
  ended_with_most_replies e = closed (run s rs) (run s rs).phase (omega (arith, replies_and_question))

pub ended_is_final : (s : Setup) (rs : List Reply) (t : Termination) → (run s rs).phase ≡ Phase.ended t → (r : Reply) → check_due (run s rs) r ≡ refuse 13 0 0
ended_is_final s rs t e r = rw (e, none_suits r)
