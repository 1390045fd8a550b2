-- Demand 1 at any words at all, held or not, for every call of every list: the answer is the one that document 01's table fixes, a refusal changes no word but
-- that one at an entry leaves the area all zero, a result leaves what the definition says, and an output gets the answer's part and nothing past it.
-- From the contracts alone; no history is asked for. Assumes nothing.
use Prim.Native.Nat.{ℕ, ◌+◌, ◌-◌, ◌≤◌}
use native.Mathlib.Omega.{arith}
use mathlib.Core.Path.{◌≡◌, refl, sym, ap, ◌∙◌, subst}
use mathlib.Core.Bool.{Bool, true, false, true≢false, false≢true, cond, ◌&&◌}
use mathlib.Core.List.{List, ◌++◌}
use Rattle.std.specs.Prelude.{Option, None, Some}
use lib.Dec.{ltb}
use lib.ListN.{length, take, drop, replicate, length-replicate, length-append}
use lib.Seq.{length-take-le, take-append_seam, drop-append_seam, drop-append-le, drop_at, take_at}
use borrow.Author.Tests.{ltb-false}
use Rattle.definition.specs.Problem.{Setup, Refusal, Check, refuse, when, ◌then◌, validate}
use Rattle.definition.specs.Machine.{Reply, check_due}
use Rattle.definition.specs.Log.{entry_words}
use Rattle.definition.specs.Record.{Reading, check_area, plain_refusal, read_record}
use Rattle.definition.specs.Sound.{at_entry}
use Rattle.definition.specs.Book.{Book, log_of}
use Rattle.definition.specs.History.{Call, Answer, refusals_of, refused_by, restored_answer}
use Rattle.definition.proofs.Accepted.{both_passed, test_failed}
use Rattle.definition.proofs.Numbered.{AnswerNumbered}
use Rattle.held.specs.Test.{is_held}
use Rattle.lbfgsb.specs.Words.{Words, lengths, machine_in, log_in}
use Rattle.lbfgsb.specs.Table.{check_at, short_log, check_back, replies_left, stay_answer, answer_at, is_none, zeroed}
use Rattle.lbfgsb.specs.Did.{Started, Restored, Restores, Loaded, Moved, Replied, Shortened, TakenBack, TakesReplies, TakesBack}
use Rattle.lbfgsb.specs.Chain.{Chain, is_refused, Advanced, ReadIn, Stay, Past, Struck, Exact, Answered}
use Rattle.lbfgsb.proofs.Trace.{Called, by_start, by_restore, by_reply, by_take_back, by_question, by_report, by_replies, by_entry, by_save}
use Rattle.lbfgsb.proofs.Outputs.{OutputOf, output}
use Rattle.lbfgsb.proofs.Table.{answer_numbered}

-- ---- refused or not

record Refused (o : Answer) : Type 0 where
  by : Refusal
  is : o ≡ Answer.refused by

refused_by_lem : (o : Answer) → is_refused o ≡ true → Refused o
refused_by_lem (Answer.refused r) e = record { by = r; is = refl }
refused_by_lem Answer.done e = absurd (false≢true e)
refused_by_lem (Answer.asked q) e = absurd (false≢true e)
refused_by_lem (Answer.reported r) e = absurd (false≢true e)
refused_by_lem (Answer.counted k) e = absurd (false≢true e)
refused_by_lem (Answer.entered ws) e = absurd (false≢true e)
refused_by_lem (Answer.saved bs) e = absurd (false≢true e)

-- checks that do not refuse passed
unrefused : (c : Check) (o : Answer) → is_refused (refused_by c o) ≡ false → c ≡ None
unrefused None o e = refl
unrefused (Some r) o e = absurd (true≢false e)

not_refused : {o p : Answer} → is_refused o ≡ true → o ≡ p → is_refused p ≡ false → ⊥
not_refused t e f = true≢false (sym t ∙ ap is_refused e ∙ f)

-- ---- a part of a list

-- behind a front of k words and an entry
past_entry : (front entry back : List ℕ) (k m : ℕ) → length front ≡ k → m ≡ k + length entry → drop m (front ++ entry ++ back) ≡ back
past_entry front entry back k m e q =
    let all : m ≡ length (front ++ entry) = omega (arith, length-append front entry) in
    ap (λ (x : ℕ). drop x (front ++ entry ++ back)) all ∙ drop-append_seam (front ++ entry) back

-- the entry itself
mid_entry : (front entry back : List ℕ) (k m : ℕ) → length front ≡ k → m ≡ length entry → take m (drop k (front ++ entry ++ back)) ≡ entry
mid_entry front entry back k m e q =
    let room : length front ≤ length (front ++ entry) = omega (arith, length-append front entry) in
    let rest : drop k (front ++ entry ++ back) ≡ entry ++ back
    = ap (λ (x : ℕ). drop x (front ++ entry ++ back)) (sym e)
    ∙ drop-append-le (length front) (front ++ entry) back room
    ∙ ap (λ (x : List ℕ). x ++ back) (drop-append_seam front entry) in
    ap (take m) rest ∙ ap (λ (x : ℕ). take x (entry ++ back)) q ∙ take-append_seam entry back

-- up to its end
to_entry : (front entry back : List ℕ) (k m : ℕ) → length front ≡ k → m ≡ k + length entry → take m (front ++ entry ++ back) ≡ front ++ entry
to_entry front entry back k m e q = take_at (front ++ entry) back m (omega (arith, e, q, length-append front entry))

same_past : {w w' : Words} → w' ≡ w → Past w w'
same_past {w} {w'} e = ap (λ (x : Words). drop w'.state.extra.words x.log) e

-- ---- start

start_exact : {s : Setup} {w w' : Words} {o : Answer} → Started s w w' o → Exact (Call.start s) w w' o
start_exact {s} {w} {w'} {o} l = record {
  answer = l.always;
  refused = λ t. let r = refused_by_lem o t in l.refuses r.by r.is;
  result = λ f. (l.opened (done f)).stands;
  past = l.log;
  sized = l.did.sized;
}
  where
    done : is_refused o ≡ false → o ≡ Answer.done
    done f =
        let check = validate s then check_area (lengths w) s in
        l.always ∙ ap (λ (c : Check). refused_by c Answer.done) (unrefused check Answer.done (ap is_refused (sym l.always) ∙ f))

-- ---- restore

loaded_past : {b : Book} {w w' : Words} → Loaded b w w' → Past w w'
loaded_past {b} {w} {w'} l =
    let k = l.held.stands.words in
    ap (drop w'.state.extra.words) l.log
    ∙ drop_at (log_of b) (drop (length (log_of b)) w.log) w'.state.extra.words (sym k)
    ∙ ap (λ (i : ℕ). drop i w.log) (sym k)

restore_exact : {bs : List ℕ} {w w' : Words} {o : Answer} → Restored bs w w' o → Exact (Call.restore bs) w w' o
restore_exact {bs} {w} {w'} {o} l =
    let d = read_record (lengths w) bs in
    record {
      answer = l.always;
      refused = λ t. left d l.always l.restores t;
      result = λ f. read d l.always l.restores f;
      past = past d l.restores;
      sized = l.did.sized;
    }
  where
    left : (d : Reading) → o ≡ restored_answer d → Restores d w w' → is_refused o ≡ true → w' ≡ cond (at_entry d) (zeroed w) w
    left (Reading.accepted b) e x t = absurd (not_refused t e refl)
    left (Reading.refused c) e x t = x
    left (Reading.refused_at_entry c) e x t = x

    read : (d : Reading) → o ≡ restored_answer d → Restores d w w' → is_refused o ≡ false → ReadIn d w'
    read (Reading.accepted b) e x f = x.held.stands
    read (Reading.refused c) e x f = true≢false (ap is_refused (sym e) ∙ f)
    read (Reading.refused_at_entry c) e x f = true≢false (ap is_refused (sym e) ∙ f)

    past : (d : Reading) → Restores d w w' → Past w w'
    past (Reading.accepted b) x = loaded_past x
    past (Reading.refused c) x = same_past x
    past (Reading.refused_at_entry c) x = ap (λ (v : Words). drop w'.state.extra.words v.log) x

-- ---- reply

-- what an accepted reply passed: a fit is held, and its entry has room
record Room (r : Reply) (w : Words) : Type 0 where
  room : w.state.extra.words + length (entry_words r) ≤ length w.log

with_room : (r : Reply) (w : Words) → is_refused (answer_at (Call.reply r) w) ≡ false → Room r w
with_room r w e = go (is_held w.state w.area) e
  where
    full : Bool
    full = ltb (length w.log) (w.state.extra.words + length (entry_words r))

    go : (b : Bool) → is_refused (cond b (refused_by (check_at w r) Answer.done) (Answer.refused (plain_refusal 13))) ≡ false → Room r w
    go false f = absurd (true≢false f)
    go true f =
        let p = both_passed (check_due (machine_in w) r) (when full (refuse 12 0 0)) (unrefused (check_at w r) Answer.done f) in
        record { room = ltb-false (length w.log) (w.state.extra.words + length (entry_words r)) (test_failed full (plain_refusal 12) p.1) }

reply_exact : {r : Reply} {w w' : Words} {o : Answer} → Replied r w w' o → Exact (Call.reply r) w w' o
reply_exact {r} {w} {w'} {o} l = record {
  answer = l.always;
  refused = kept;
  result = λ f. advanced f (l.moved (done f));
  past = past (is_refused o) refl;
  sized = l.did.sized;
}
  where
    kept : is_refused o ≡ true → w' ≡ w
    kept t = let b = refused_by_lem o t in l.refuses b.by b.is

    room : is_refused o ≡ false → Room r w
    room f = with_room r w (ap is_refused (sym l.always) ∙ f)

    done : is_refused o ≡ false → o ≡ Answer.done
    done f = l.always ∙ go (is_held w.state w.area) (check_at w r) (ap is_refused (sym l.always) ∙ f)
      where
        go : (b : Bool) (c : Check) → is_refused (cond b (refused_by c Answer.done) (Answer.refused (plain_refusal 13))) ≡ false
            → cond b (refused_by c Answer.done) (Answer.refused (plain_refusal 13)) ≡ Answer.done
        go true None f = refl
        go true (Some c) f = absurd (true≢false f)
        go false c f = absurd (true≢false f)

    front : is_refused o ≡ false → length (log_in w) ≡ w.state.extra.words
    front f = length-take-le w.state.extra.words w.log (omega (arith, (room f).room))

    advanced : is_refused o ≡ false → Moved r w w' → Advanced r w w'
    advanced f m =
        let back = drop w'.state.extra.words w.log in
        record {
          machine = m.is;
          setup = m.setup;
          replies = m.entries;
          log =
              ap (take w'.state.extra.words) m.log
              ∙ to_entry (log_in w) (entry_words r) back w.state.extra.words w'.state.extra.words (front f) m.words;
        }

    past : (b : Bool) → is_refused o ≡ b → Past w w'
    past true t = same_past (kept t)
    past false f =
        let m = l.moved (done f) in
        ap (drop w'.state.extra.words) m.log
        ∙ past_entry (log_in w) (entry_words r) (drop w'.state.extra.words w.log) w.state.extra.words w'.state.extra.words (front f) m.words

-- ---- take back

none_struck : (w : Words) → w.state.extra.words - w.state.extra.words ≡ 0
none_struck w = omega arith

struck_none : {w w' : Words} → w' ≡ w → Struck w w'
struck_none {w} e = subst (Struck w) (sym e) (record { fewer = omega arith; zeroed = rw (none_struck w) refl; past = refl })

struck : {w w' : Words} → Shortened w w' → w.state.extra.words ≤ length w.log → Struck w w'
struck {w} {w'} t l =
    let k = w'.state.extra.words in
    let n = w.state.extra.words in
    let fewer = t.words in
    let front = take k w.log in
    let zeros : List ℕ = replicate (n - k) 0 in
    let back = drop n w.log in
    let sized = length-take-le k w.log (omega (arith, fewer, l)) in
    let many : length zeros ≡ n - k = length-replicate (n - k) 0 in
    record {
      fewer = fewer;
      zeroed = ap (λ (x : List ℕ). take (n - k) (drop k x)) t.log ∙ mid_entry front zeros back k (n - k) sized (sym many);
      past = ap (drop n) t.log ∙ past_entry front zeros back k n sized (omega (arith, fewer, many));
    }

-- the log of a held fit that passed the checks has all its words
back_room : (w : Words) (j : ℕ) → is_held w.state w.area ≡ true → check_back w j ≡ None → w.state.extra.words ≤ length w.log
back_room w j h e =
    let short = ltb (length w.log) w.state.extra.words in
    let p = both_passed (when (ltb w.state.extra.entries j) (refuse 16 0 0)) (short_log w) (rw h at e) in
    ltb-false (length w.log) w.state.extra.words (test_failed short (plain_refusal 12) p.1)

-- by whether a fit is held, what the checks say, and the replies that are to stay
record Back (b : Bool) (c : Check) (q : Option (List Reply)) (w w' : Words) (o : Answer) : Type 0 where
  refused : is_refused o ≡ true → w' ≡ cond (b && is_none c && is_none q) (zeroed w) w
  result : is_refused o ≡ false → cond b (Stay q w w') (w' ≡ w)
  past : Struck w w'

-- what the contract says, by the same
abbrev Leaves : Bool → Check → Option (List Reply) → Words → Words → Type 0
Leaves b (Some r) q w w' = w' ≡ w
Leaves b None q w w' = cond b (TakesReplies q w w') (w' ≡ w)

back_by :
    (b : Bool) (c : Check) (q : Option (List Reply)) (w w' : Words) (o : Answer) → (b ≡ true → c ≡ None → w.state.extra.words ≤ length w.log)
    → o ≡ refused_by c (cond b (stay_answer q) Answer.done) → Leaves b c q w w' → Back b c q w w' o
back_by true (Some r) q w w' o l e x = record { refused = λ t. x; result = λ f. absurd (true≢false (ap is_refused (sym e) ∙ f)); past = struck_none x }
back_by false (Some r) q w w' o l e x = record { refused = λ t. x; result = λ f. x; past = struck_none x }
back_by true None (Some rs) w w' o l e x = record {
  refused = λ t. absurd (not_refused t e refl);
  result = λ f. x.stands;
  past = struck x.log (l refl refl);
}
back_by true None None w w' o l e x = record {
  refused = λ t. x;
  result = λ f. true≢false (ap is_refused (sym e) ∙ f);
  past = subst (Struck w) (sym x) (record { fewer = omega arith; zeroed = rw (none_struck w) refl; past = refl });
}
back_by false None q w w' o l e x = record { refused = λ t. x; result = λ f. x; past = struck_none x }

back_exact : {j : ℕ} {w w' : Words} {o : Answer} → TakenBack j w w' o → Exact (Call.take_back j) w w' o
back_exact {j} {w} {w'} {o} l =
    let h = back_by (is_held w.state w.area) (check_back w j) (replies_left j w) w w' o (back_room w j) l.always (leaves (check_back w j) l.back) in
    record { answer = l.always; refused = h.refused; result = h.result; past = h.past; sized = l.did.sized }
  where
    leaves : (c : Check) → TakesBack j c w w' → Leaves (is_held w.state w.area) c (replies_left j w) w w'
    leaves None x = x
    leaves (Some r) x = x

-- ---- each call, and every list of calls

pub exact : {c : Call} {w w' : Words} {o : Answer} → Called c w w' o → Exact c w w' o
exact (by_start κs a z e log l) = start_exact (l log)
exact (by_restore κs a z e l) = restore_exact l
exact (by_reply κs a z e l) = reply_exact l
exact (by_take_back κs a z e l) = back_exact l
exact (by_question κs a z e log l) = record { answer = (l log).always; refused = λ t. refl; result = λ f. refl; past = refl; sized = refl }
exact (by_report κs a z e log l) = record { answer = (l log).always; refused = λ t. refl; result = λ f. refl; past = refl; sized = refl }
exact (by_replies κs a z e log l) = record { answer = (l log).always; refused = λ t. refl; result = λ f. refl; past = refl; sized = refl }
exact (by_entry κs a z e l) = record { answer = l.always; refused = λ t. refl; result = λ f. refl; past = refl; sized = refl }
exact (by_save κs a z e l) = record { answer = l.always; refused = λ t. refl; result = λ f. refl; past = refl; sized = refl }

-- a call with what it does to the words, and to the output that it is lent
pub record Exactly (c : Call) (w w' : Words) (o : Answer) : Type 0 where
  pub called : Called c w w' o
  pub exact : Exact c w w' o
  pub output : OutputOf called

-- from any words whatever, every call of every list
pub every_call_exact : {w w' : Words} {cs : List Call} {os : List Answer} → Chain Called w cs os w' → Chain Exactly w cs os w'
every_call_exact Chain.end = Chain.end
every_call_exact (Chain.call d ds) = Chain.call (record { called = d; exact = exact d; output = output d }) (every_call_exact ds)

-- the number of a refusal is one that the table has for the call's place
pub every_number : {c : Call} {w w' : Words} {o : Answer} → Called c w w' o → Answered c o
every_number {c} {w} d = record { number = λ r e. subst (AnswerNumbered (refusals_of c)) (sym (exact d).answer ∙ e) (answer_numbered c w) }
