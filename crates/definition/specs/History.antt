-- The history of a fit, document 01's book: fed the calls with their own arguments, and of area and log the lengths,
-- it says what each call answers and what it leaves.
use Rattle.std.specs.Prelude.{ℕ, ◌+◌, ◌*◌, Bool, false, ◌||◌, List, [], ◌∷◌, ◌++◌, eqb, ltb, length}
use Rattle.std.specs.Prelude.{Option, None, Some}
use Rattle.definition.specs.Problem.{Setup, Refusal, Check, refuse, when, ◌then◌, validate, dimension}
use Rattle.definition.specs.Machine.{Reply, Question, Report, check_due, question as question_of, report_now as report_of, unreported}
use Rattle.definition.specs.Log.{entry_words}
use Rattle.definition.specs.Book.{Book, opened_book, with_reply, struck, run_of, log_of, entry_at}
use Rattle.definition.specs.Record.{Lengths, Reading, check_area, read_record, record_words, record_bytes}

-- `question` and `report` bring an output slice of this many floats, `entry` one of this many words, `save` one of this many bytes.
pub data Call : Type 0 where
  -- document 01's opening and reading in
  start : Setup → Call
  restore : List ℕ → Call
  reply : Reply → Call
  take_back : ℕ → Call
  question : ℕ → Call
  report : ℕ → Call
  -- how many replies are kept, and the entry of a number, from 0 the oldest
  replies : Call
  entry : ℕ → ℕ → Call
  save : ℕ → Call

pub data Answer : Type 0 where
  refused : Refusal → Answer
  done : Answer
  asked : Option Question → Answer
  reported : Report → Answer
  counted : ℕ → Answer
  -- no words where there is no such entry
  entered : List ℕ → Answer
  saved : List ℕ → Answer

-- nothing is held, or a fit by its book
pub data History : Type 0 where
  empty : History
  fit : Book → History

-- ---- refusals by place: the numbers that document 01's table has for each call

-- those of a setup, and the largest of all
abbrev pub setup_row : List ℕ
setup_row = 1 ∷ 2 ∷ 3 ∷ 4 ∷ 5 ∷ 6 ∷ 7 ∷ 8 ∷ 9 ∷ 10 ∷ []

abbrev pub most_refusal : ℕ
most_refusal = 19

abbrev pub refusals_of : Call → List ℕ
refusals_of (Call.start s) = setup_row ++ (11 ∷ [])
refusals_of (Call.restore bs) = setup_row ++ (11 ∷ 12 ∷ 17 ∷ 18 ∷ [])
refusals_of (Call.reply r) = 13 ∷ 14 ∷ 12 ∷ []
refusals_of (Call.take_back j) = 16 ∷ 12 ∷ 17 ∷ []
refusals_of (Call.question room) = 19 ∷ []
refusals_of (Call.report room) = 15 ∷ 19 ∷ []
refusals_of Call.replies = []
refusals_of (Call.entry k room) = 12 ∷ 19 ∷ []
refusals_of (Call.save room) = 12 ∷ 19 ∷ []

abbrev pub among : ℕ → List ℕ → Bool
among k [] = false
among k (x ∷ xs) = eqb k x || among k xs

-- ---- checks of a fit held

abbrev pub log_short : Lengths → Book → Check
log_short z b = when (ltb z.log (length (log_of b))) (refuse 12 0 0)

abbrev pub output_short : ℕ → ℕ → Check
output_short room needed = when (ltb room needed) (refuse 19 needed 0)

abbrev pub check_reply : Lengths → Book → Reply → Check
check_reply z b r = check_due (run_of b) r then when (ltb z.log (length (log_of b) + length (entry_words r))) (refuse 12 0 0)

abbrev pub check_question : Book → ℕ → Option Question → Check
check_question b room None = None
check_question b room (Some q) = output_short room (dimension b.setup)

-- ---- each call: the check, and where it passes what is left and what is answered

pub record Row : Type 0 where
  pub check : Check
  pub left : History
  pub answer : Answer

abbrev pub checked : Check → History → Answer → Row
checked c left a = record { check = c; left = left; answer = a }

-- a reading has checked already: refused ahead of the entries it keeps the history, refused at an entry it empties it
abbrev pub restored : History → Reading → History
restored h (Reading.accepted b) = History.fit b
restored h (Reading.refused r) = h
restored h (Reading.refused_at_entry r) = History.empty

abbrev pub restored_answer : Reading → Answer
restored_answer (Reading.accepted b) = Answer.done
restored_answer (Reading.refused r) = Answer.refused r
restored_answer (Reading.refused_at_entry r) = Answer.refused r

abbrev pub call_row : Lengths → History → Call → Row
call_row z h (Call.start s) = checked (validate s then check_area z s) (History.fit (opened_book s)) Answer.done
call_row z h (Call.restore bs) = checked None (restored h (read_record z bs)) (restored_answer (read_record z bs))
call_row z History.empty (Call.reply r) = checked (refuse 13 0 0) History.empty Answer.done
call_row z (History.fit b) (Call.reply r) = checked (check_reply z b r) (History.fit (with_reply r b)) Answer.done
call_row z History.empty (Call.take_back j) = checked (when (ltb 0 j) (refuse 16 0 0)) History.empty Answer.done
call_row z (History.fit b) (Call.take_back j) =
    checked (when (ltb (length b.replies) j) (refuse 16 0 0) then log_short z b) (History.fit (struck j b)) Answer.done
call_row z History.empty (Call.question room) = checked None History.empty (Answer.asked None)
call_row z (History.fit b) (Call.question room) =
    checked (check_question b room (question_of (run_of b))) (History.fit b) (Answer.asked (question_of (run_of b)))
call_row z History.empty (Call.report room) = checked (refuse 15 0 0) History.empty Answer.done
call_row z (History.fit b) (Call.report room) =
    checked (when (unreported (run_of b).phase) (refuse 15 0 0) then output_short room (dimension b.setup))
    (History.fit b) (Answer.reported (report_of (run_of b)))
call_row z History.empty Call.replies = checked None History.empty (Answer.counted 0)
call_row z (History.fit b) Call.replies = checked None (History.fit b) (Answer.counted (length b.replies))
call_row z History.empty (Call.entry k room) = checked None History.empty (Answer.entered [])
call_row z (History.fit b) (Call.entry k room) =
    checked (log_short z b then output_short room (length (entry_at b.replies k))) (History.fit b) (Answer.entered (entry_at b.replies k))
call_row z History.empty (Call.save room) = checked None History.empty (Answer.saved [])
call_row z (History.fit b) (Call.save room) =
    checked (log_short z b then output_short room (8 * length (record_words b))) (History.fit b) (Answer.saved (record_bytes b))

-- refused, the history stays
abbrev pub left_by : Check → History → History → History
left_by None h left = left
left_by (Some r) h left = h

abbrev pub refused_by : Check → Answer → Answer
refused_by None a = a
refused_by (Some r) a = Answer.refused r

abbrev pub history_step : Lengths → History → Call → History
history_step z h c = left_by (call_row z h c).check h (call_row z h c).left

abbrev pub history_answer : Lengths → History → Call → Answer
history_answer z h c = refused_by (call_row z h c).check (call_row z h c).answer

-- ---- every list of calls

unfoldable pub history_after : Lengths → History → List Call → History
history_after z h [] = h
history_after z h (c ∷ cs) = history_after z (history_step z h c) cs

unfoldable pub history_answers : Lengths → History → List Call → List Answer
history_answers z h [] = []
history_answers z h (c ∷ cs) = history_answer z h c ∷ history_answers z (history_step z h c) cs
