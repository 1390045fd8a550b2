-- What a report says once there is a value reply and no failure: the definition's theorems, for the fit that every list of calls leaves. Assumes nothing.
use Prim.Native.Nat.{ℕ, ◌+◌, ◌≤◌}
use mathlib.Core.Path.{◌≡◌, refl, sym, ap, subst}
use mathlib.Core.Bool.{Bool, true, false, false≢true, cond}
use mathlib.Core.List.{List, [], ◌∷◌}
use Rattle.std.specs.Prelude.{Option, None, Some}
use native.Mathlib.Omega.{arith}
use Rattle.definition.specs.Problem.{Setup, Check, dimension, either}
use Rattle.definition.specs.Counters.{Termination}
use Rattle.definition.specs.Machine.{Reply, Question, Report, Place, Phase, first_word, is_value, is_failure}
use Rattle.definition.specs.Machine.{kind_of, unreported, question as question_of, report_now as report_of}
use Rattle.definition.specs.Driver.{begin, run}
use Rattle.definition.specs.Replies.{Accepted, Due, count_of, first_value}
use Rattle.definition.specs.Points.{Reported}
use Rattle.definition.specs.Book.{Book, run_of}
use Rattle.definition.specs.History.{Call, Answer, History, call_row, refused_by, history_after}
use Rattle.definition.proofs.Counts.{nfev_counts_values, nit_counts_notices, njev_counts_gradients, nfev_within_budget, nit_within_budget}
use Rattle.definition.proofs.Bound.{replies_bounded, ended_with_most_replies}
use Rattle.definition.proofs.Statuses.{status_means}
use Rattle.definition.proofs.Sizes.{sizes}
use Rattle.definition.proofs.Own.{held_is_own, held_point, start_asked_first}
use Rattle.definition.proofs.Value.{not_above_first}
use Rattle.definition.proofs.Box.{held_in_box, held_not_nan, asked_in_box, asked_not_nan}
use Rattle.lbfgsb.specs.Words.{Words, lengths, Holds}
use Rattle.lbfgsb.specs.Chain.{Chain, Allowed, Bounded, Valued, Fitted, Asks}
use Rattle.lbfgsb.proofs.Trace.{Called, did, after, every_allowed_list}

-- ---- there is a report

failed_last : (s : Setup) (rs : List Reply) → Accepted s → Due s rs → (run s rs).phase ≡ Phase.ended Termination.objective_failed
    → count_of is_failure rs ≡ 0 → ⊥
unfolding run begin count_of
failed_last s [] a d e n = let k : ◌≡◌ {A = ℕ} 1 0 = ap kind_of e in omega arith
failed_last s (r ∷ rs) a d e n =
    let failed : r ≡ Reply.failure = status_means s r rs a d Termination.objective_failed e in
    let k : count_of is_failure rs + 1 ≡ 0 = subst (λ (x : Reply). count_of is_failure rs + cond (is_failure x) 1 0 ≡ 0) failed n in
    omega arith

started : (s : Setup) (rs : List Reply) → Due s rs → (run s rs).phase ≡ Phase.value Place.start → 1 ≤ count_of is_value rs → ⊥
unfolding count_of
started s rs d e n = let k = subst (λ (x : List Reply). 1 ≤ count_of is_value x) (start_asked_first s rs d e) n in omega arith

pub reported : (s : Setup) (rs : List Reply) → Accepted s → Due s rs → Valued rs → Reported s rs
reported s rs a d v = go (run s rs).phase refl
  where
    ends : (t : Termination) → (run s rs).phase ≡ Phase.ended t → unreported (Phase.ended t) ≡ false
    ends Termination.gtol e = refl
    ends Termination.ftol e = refl
    ends Termination.max_iterations e = refl
    ends Termination.max_evaluations e = refl
    ends Termination.cancelled e = refl
    ends Termination.nonfinite e = refl
    ends Termination.line_search_failed e = refl
    ends Termination.objective_failed e = absurd (failed_last s rs a d e v.whole)

    go : (p : Phase) → (run s rs).phase ≡ p → unreported p ≡ false
    go (Phase.value Place.start) e = absurd (started s rs d e v.value)
    go (Phase.value Place.trial) e = refl
    go (Phase.gradient w) e = refl
    go (Phase.probe w i side) e = refl
    go Phase.notice e = refl
    go (Phase.ended t) e = ends t e

-- ---- there is a first value reply

abbrev First : Option ℕ → Type 0
First o = (w : ℕ) × (o ≡ Some w)

first_in : (f : Option ℕ) (t : Bool) (w n : ℕ) → 1 ≤ n + cond t 1 0 → (1 ≤ n → First f) → First (either f (cond t (Some w) None))
first_in (Some v) t w n m h = (v, refl)
first_in None true w n m h = (w, refl)
first_in None false w n m h = h (omega (arith, m))

first_given : (rs : List Reply) → 1 ≤ count_of is_value rs → First (first_value rs)
unfolding count_of first_value
first_given [] n = absurd (omega arith)
first_given (r ∷ rs) n = first_in (first_value rs) (is_value r) (first_word r) (count_of is_value rs) n (first_given rs)

-- ---- the theorems

pub fitted : (s : Setup) (rs : List Reply) → Accepted s → Due s rs → Valued rs → Fitted s rs (report_of (run s rs))
fitted s rs a d v =
    let e = reported s rs a d v in
    record {
      sized = (sizes s rs a d).held_words.0;
      point = held_point s rs d e;
      own = held_is_own s rs d e;
      first = first_given rs v.value;
      below = not_above_first s rs a d e;
      box = held_in_box s rs a d;
      number = held_not_nan s rs a d;
      nfev = nfev_counts_values s rs a d v.whole;
      nit = nit_counts_notices s rs a d v.whole;
      njev = njev_counts_gradients s rs a d;
      drawn = refl;
      values = nfev_within_budget s rs a d;
      iterations = nit_within_budget s rs a d;
    }

-- after every list of calls the fit held, with or without a value reply, after a failure too, has at most so many replies
pub every_fit_bounded :
    {w w' : Words} {cs : List Call} {os : List Answer} {b : Book}
    → Allowed w cs os → Chain Called w cs os w' → history_after (lengths w) History.empty cs ≡ History.fit b → Bounded b.setup b.replies
every_fit_bounded {b = b} p ch e =
    let sound = ((every_allowed_list p ch).keeps b e).sound in
    record {
      most = replies_bounded b.setup b.replies sound.accepted sound.due;
      ended = ended_with_most_replies b.setup b.replies sound.accepted sound.due;
    }

-- after every list of calls, a report into n floats or more answers such a report
pub every_report :
    {w w' v : Words} {cs : List Call} {os : List Answer} {b : Book} {room : ℕ} {o : Answer}
    → Allowed w cs os → Chain Called w cs os w' → history_after (lengths w) History.empty cs ≡ History.fit b → Valued b.replies
    → Called (Call.report room) w' v o → dimension b.setup ≤ room
    → (r : Report) × (o ≡ Answer.reported r) × Fitted b.setup b.replies r
every_report {b = b} p ch e v d l =
    let k = (every_allowed_list p ch).keeps b e in
    let sound = k.sound in
    let reports = reported b.setup b.replies sound.accepted sound.due v in
    (report_of (run_of b), k.report d reports l, fitted b.setup b.replies sound.accepted sound.due v)

-- ---- the open question

abbrev present : Option Question → Bool
present None = false
present (Some q) = true

abbrev question_in : Answer → Option Question
question_in (Answer.refused r) = None
question_in Answer.done = None
question_in (Answer.asked q) = q
question_in (Answer.reported r) = None
question_in (Answer.counted k) = None
question_in (Answer.entered ws) = None
question_in (Answer.saved bs) = None

-- an answer that asks has the definition's question
question_is : (o : Option Question) (q : Question) (c : Check) → Answer.asked (Some q) ≡ refused_by c (Answer.asked o) → o ≡ Some q
question_is o q None e = ap question_in (sym e)
question_is o q (Some r) e = absurd (false≢true (ap (λ (a : Answer). present (question_in a)) (sym e)))

-- after every list of calls, a question that is asked is of a point in the box, with no NaN
pub every_question :
    {w w' v : Words} {cs : List Call} {os : List Answer} {b : Book} {room : ℕ} {q : Question}
    → Allowed w cs os → Chain Called w cs os w' → history_after (lengths w) History.empty cs ≡ History.fit b
    → Called (Call.question room) w' v (Answer.asked (Some q)) → Asks b.setup q
every_question {w} {w'} {cs} {b = b} {room} {q} p ch e d =
    let s = b.setup in
    let rs = b.replies in
    let sound = ((every_allowed_list p ch).keeps b e).sound in
    let h = subst (Holds w') e (after p ch).holds in
    let is = question_is (question_of (run_of b)) q (call_row (lengths w') (History.fit b) (Call.question room)).check ((did d).said (History.fit b) h) in
    record { box = asked_in_box s rs sound.accepted sound.due q is; number = asked_not_nan s rs sound.accepted sound.due q is }
