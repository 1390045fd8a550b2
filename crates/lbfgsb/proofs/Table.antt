-- The table at any words (specs/Table): the number of a refusal is one that document 01 has for the call's place, and of two conditions that hold the one
-- printed first refuses. Assumes nothing.
use Prim.Native.Nat.{ℕ, ◌+◌, ◌<◌, ◌≤◌}
use mathlib.Core.Path.{◌≡◌, refl}
use mathlib.Core.Bool.{true, false}
use mathlib.Core.List.{List}
use mathlib.Core.Logic.{◌≢◌}
use Rattle.std.specs.Prelude.{Option, None, Some}
use lib.Dec.{ltb}
use lib.ListN.{length}
use borrow.Author.Tests.{lt-ltb, le-ltb, ne_eqb}
use Rattle.definition.specs.Problem.{Setup, Refusal, refuse, when, ◌then◌, validate, area_needed}
use Rattle.definition.specs.Machine.{Reply, Question, takes, check_due, question, unreported}
use Rattle.definition.specs.Log.{entry_words}
use Rattle.definition.specs.Record.{plain_refusal, read_record}
use Rattle.definition.specs.History.{Call, Answer, refusals_of, among, output_short, refused_by, restored_answer}
use Rattle.definition.proofs.Tests.{by_test}
use Rattle.definition.proofs.Numbered.{Numbered, AnswerNumbered, answered, tested, both, opening, due, short, record_numbered, restores}
use Rattle.held.specs.Test.{is_held}
use Rattle.lbfgsb.specs.Words.{Words, lengths, machine_in}
use Rattle.lbfgsb.specs.Table.{by_held, short_log, check_back, replies_left, stay_answer, question_of, entry_kept, record_in, answer_at}

-- ---- numbers

cut : {row : List ℕ} (w : Words) → among 12 row ≡ true → Numbered row (short_log w)
cut w e = tested (ltb (length w.log) w.state.extra.words) 12 0 0 e

reply_numbered : (r : Reply) (w : Words) → AnswerNumbered (refusals_of (Call.reply r)) (answer_at (Call.reply r) w)
reply_numbered r w =
    let full = ltb (length w.log) (w.state.extra.words + length (entry_words r)) in
    by_test (AnswerNumbered (refusals_of (Call.reply r))) (is_held w.state w.area)
    (λ _. answered _ Answer.done (both (check_due (machine_in w) r) (when full (refuse 12 0 0)) (due (machine_in w) r) (tested full 12 0 0 refl)) tt)
    (λ _. refl)

back_checks : (w : Words) (j : ℕ) → Numbered (refusals_of (Call.take_back j)) (check_back w j)
back_checks w j =
    by_test (Numbered (refusals_of (Call.take_back j))) (is_held w.state w.area)
    (λ _. both (when (ltb w.state.extra.entries j) (refuse 16 0 0)) (short_log w) (tested (ltb w.state.extra.entries j) 16 0 0 refl) (cut w refl))
    (λ _. tested (ltb 0 j) 16 0 0 refl)

back_numbered : (j : ℕ) (w : Words) → AnswerNumbered (refusals_of (Call.take_back j)) (answer_at (Call.take_back j) w)
back_numbered j w = answered _ _ (back_checks w j) (by_test N (is_held w.state w.area) (λ _. stays (replies_left j w)) (λ _. tt))
  where
    N : Answer → Type 0
    N = AnswerNumbered (refusals_of (Call.take_back j))

    stays : (q : Option (List Reply)) → N (stay_answer q)
    stays (Some rs) = tt
    stays None = refl

question_numbered : (room : ℕ) (w : Words) → AnswerNumbered (refusals_of (Call.question room)) (answer_at (Call.question room) w)
question_numbered room w = by_test N (is_held w.state w.area) (λ _. go (question (machine_in w))) (λ _. tt)
  where
    N : Answer → Type 0
    N = AnswerNumbered (refusals_of (Call.question room))

    go : (q : Option Question) → N (question_of w room q)
    go None = tt
    go (Some q) = answered {numbers = refusals_of (Call.question room)} _ (Answer.asked (Some q)) (short room w.state.shape.n refl) tt

report_numbered : (room : ℕ) (w : Words) → AnswerNumbered (refusals_of (Call.report room)) (answer_at (Call.report room) w)
report_numbered room w =
    let absent = unreported (machine_in w).phase in
    let n = w.state.shape.n in
    by_test (AnswerNumbered (refusals_of (Call.report room))) (is_held w.state w.area)
    (λ _. answered {numbers = refusals_of (Call.report room)} _ _
    (both (when absent (refuse 15 0 0)) (output_short room n) (tested absent 15 0 0 refl) (short room n refl)) tt)
    (λ _. refl)

-- a read of the log, which needs so many elements of its output
log_read :
    (row : List ℕ) (w : Words) (room needed : ℕ) (held unheld : Answer) → among 12 row ≡ true → among 19 row ≡ true
    → AnswerNumbered row held → AnswerNumbered row unheld
    → AnswerNumbered row (by_held w (refused_by (short_log w then output_short room needed) held) unheld)
log_read row w room needed held unheld a b h u =
    by_test (AnswerNumbered row) (is_held w.state w.area)
    (λ _. answered _ held (both (short_log w) (output_short room needed) (cut w a) (short room needed b)) h)
    (λ _. u)

pub answer_numbered : (c : Call) (w : Words) → AnswerNumbered (refusals_of c) (answer_at c w)
answer_numbered (Call.start s) w = answered {numbers = refusals_of (Call.start s)} _ Answer.done (opening (lengths w) s) tt
answer_numbered (Call.restore bs) w = restores (read_record (lengths w) bs) (record_numbered (lengths w) bs)
answer_numbered (Call.reply r) w = reply_numbered r w
answer_numbered (Call.take_back j) w = back_numbered j w
answer_numbered (Call.question room) w = question_numbered room w
answer_numbered (Call.report room) w = report_numbered room w
answer_numbered Call.replies w = by_test (AnswerNumbered (refusals_of Call.replies)) (is_held w.state w.area) (λ _. tt) (λ _. tt)
answer_numbered (Call.entry k room) w = log_read (refusals_of (Call.entry k room)) w room (length (entry_kept w k)) _ _ refl refl tt tt
answer_numbered (Call.save room) w = log_read (refusals_of (Call.save room)) w room (length (record_in w)) _ _ refl refl tt tt

-- ---- the order printed, at any words

-- start: the setup's row whatever the area's length is, then 11; restore: as the definition reads the record; neither looks at what the words hold
pub setup_first : (w : Words) (s : Setup) (r : Refusal) → validate s ≡ Some r → answer_at (Call.start s) w ≡ Answer.refused r
setup_first w s r e = rw e refl

pub area_last : (w : Words) (s : Setup) → validate s ≡ None → length w.area < area_needed s
    → answer_at (Call.start s) w ≡ Answer.refused (record { number = 11; first = area_needed s; second = 0 })
area_last w s e l = rw (e, lt-ltb (length w.area) (area_needed s) l) refl

pub read_by_definition : (w : Words) (bs : List ℕ) → answer_at (Call.restore bs) w ≡ restored_answer (read_record (lengths w) bs)
read_by_definition w bs = refl

-- ---- the order printed, where a fit is held

module _ (w : Words) (held : is_held w.state w.area ≡ true) where
  -- reply: 13 whatever the gradient's length and the log's are, then 14 whatever the log's is, then 12
  pub not_due_first : (r : Reply) → takes (machine_in w) r ≡ false → answer_at (Call.reply r) w ≡ Answer.refused (plain_refusal 13)
  not_due_first r e = rw (held, e) refl

  pub length_second : (ws : List ℕ) → takes (machine_in w) (Reply.gradient ws) ≡ true → length ws ≢ w.state.shape.n
      → answer_at (Call.reply (Reply.gradient ws)) w ≡ Answer.refused (record { number = 14; first = w.state.shape.n; second = length ws })
  length_second ws e k = rw (held, e, ne_eqb (length ws) w.state.shape.n k) refl

  pub room_last : (r : Reply) → check_due (machine_in w) r ≡ None → length w.log < w.state.extra.words + length (entry_words r)
      → answer_at (Call.reply r) w ≡ Answer.refused (plain_refusal 12)
  room_last r e l = rw (held, e, lt-ltb (length w.log) (w.state.extra.words + length (entry_words r)) l) refl

  -- take back: 16 whatever the log's length is, then 12 whatever its entries are, then 17 by an entry that is to stay
  pub too_many_first : (j : ℕ) → w.state.extra.entries < j → answer_at (Call.take_back j) w ≡ Answer.refused (plain_refusal 16)
  too_many_first j l = rw (held, lt-ltb w.state.extra.entries j l) refl

  pub short_before_entries : (j : ℕ) → j ≤ w.state.extra.entries → length w.log < w.state.extra.words
      → answer_at (Call.take_back j) w ≡ Answer.refused (plain_refusal 12)
  short_before_entries j l s = rw (held, le-ltb w.state.extra.entries j l, lt-ltb (length w.log) w.state.extra.words s) refl

  pub bad_entry_last : (j : ℕ) → j ≤ w.state.extra.entries → w.state.extra.words ≤ length w.log → replies_left j w ≡ None
      → answer_at (Call.take_back j) w ≡ Answer.refused (plain_refusal 17)
  bad_entry_last j l s e = rw (held, le-ltb w.state.extra.entries j l, le-ltb (length w.log) w.state.extra.words s, e) refl

  -- reads: 15 and 12 whatever the output's length is
  pub unreported_first : (room : ℕ) → unreported (machine_in w).phase ≡ true → answer_at (Call.report room) w ≡ Answer.refused (plain_refusal 15)
  unreported_first room e = rw (held, e) refl

  pub log_before_output : (k room : ℕ) → length w.log < w.state.extra.words
      → (answer_at (Call.entry k room) w ≡ Answer.refused (plain_refusal 12)) × (answer_at (Call.save room) w ≡ Answer.refused (plain_refusal 12))
  log_before_output k room s = rw (held, lt-ltb (length w.log) w.state.extra.words s) (refl, refl)
