-- Document 01's table, "refusals by place": what each call answers at any words at all, held or not. A refusal is given if its condition holds and no
-- earlier one does, in the order printed, with its details; `refused_by` of checks joined by `then` says just that.
-- What words hold is read off them: the test for a held fit (`is_held`), the machine (`machine_in`), the setup (`setup_of`), the log up to its last entry
-- (`log_in`).
use Rattle.std.specs.Prelude.{ℕ, ◌+◌, ◌-◌, Bool, true, false, cond, ◌&&◌, List, [], ltb, length, replicate}
use Rattle.std.specs.Prelude.{Option, None, Some}
use Rattle.definition.specs.Number.{zero64}
use Rattle.definition.specs.Problem.{Check, refuse, when, ◌then◌, validate}
use Rattle.definition.specs.Machine as M
use Rattle.definition.specs.Machine.{check_due}
use Rattle.definition.specs.Log.{entry_words, entries_kept}
use Rattle.definition.specs.Record.{check_area, read_record, plain_refusal}
use Rattle.definition.specs.Sound.{at_entry}
use Rattle.definition.specs.History.{Call, Answer, output_short, refused_by, restored_answer}
use Rattle.held.specs.Test.{is_held}
use Rattle.lbfgsb.specs.Words.{Words, words, lengths, setup_of, machine_in, log_in}
pub use Rattle.lookup.specs.Reading.{words_of_entry, front_entry, record_in}
unfoldable pub use Rattle.lookup.specs.Reading.{entry_in}

-- a fit is held, or not
abbrev pub by_held : Words → Answer → Answer → Answer
by_held w held none-held = cond (is_held w.state w.area) held none-held

-- ---- reply: 13, 14, 12

abbrev pub check_at : Words → M.Reply → Check
check_at w r = check_due (machine_in w) r then when (ltb (length w.log) (w.state.extra.words + length (entry_words r))) (refuse 12 0 0)

abbrev pub reply_answer : Words → M.Reply → Answer
reply_answer w r = by_held w (refused_by (check_at w r) Answer.done) (Answer.refused (plain_refusal 13))

-- ---- take back: 16, 12, and at an entry of an altered log 17

-- 12: the log is shorter than its entries
abbrev pub short_log : Words → Check
short_log w = when (ltb (length w.log) w.state.extra.words) (refuse 12 0 0)

abbrev pub check_back : Words → ℕ → Check
check_back w j = cond (is_held w.state w.area) (when (ltb w.state.extra.entries j) (refuse 16 0 0) then short_log w) (when (ltb 0 j) (refuse 16 0 0))

-- the replies that are to stay, as the definition reads them from the log: none where the log was altered and one of them is unknown, cut or not due
abbrev pub replies_left : ℕ → Words → Option (List M.Reply)
replies_left j w = entries_kept (setup_of w) (w.state.extra.entries - j) (log_in w)

abbrev pub stay_answer : Option (List M.Reply) → Answer
stay_answer (Some rs) = Answer.done
stay_answer None = Answer.refused (plain_refusal 17)

-- where no fit is held there is nothing to strike
abbrev pub back_answer : Words → ℕ → Answer
back_answer w j = refused_by (check_back w j) (by_held w (stay_answer (replies_left j w)) Answer.done)

-- ---- reads: 15, 12, 19

abbrev pub question_of : Words → ℕ → Option M.Question → Answer
question_of w room None = Answer.asked None
question_of w room (Some q) = refused_by (output_short room w.state.shape.n) (Answer.asked (Some q))

abbrev pub question_answer : Words → ℕ → Answer
question_answer w room = by_held w (question_of w room (M.question (machine_in w))) (Answer.asked None)

abbrev pub report_answer : Words → ℕ → Answer
report_answer w room =
    by_held w
    (refused_by (when (M.unreported (machine_in w).phase) (refuse 15 0 0) then output_short room w.state.shape.n)
    (Answer.reported (M.report_now (machine_in w))))
    (Answer.refused (plain_refusal 15))

abbrev pub replies_answer : Words → Answer
replies_answer w = by_held w (Answer.counted w.state.extra.entries) (Answer.counted 0)

abbrev pub entry_kept : Words → ℕ → List ℕ
entry_kept w k = cond (ltb k w.state.extra.entries) (entry_in w.state.shape.n k (log_in w)) []

abbrev pub entry_answer : Words → ℕ → ℕ → Answer
entry_answer w k room =
    by_held w (refused_by (short_log w then output_short room (length (entry_kept w k))) (Answer.entered (entry_kept w k))) (Answer.entered [])

abbrev pub save_answer : Words → ℕ → Answer
save_answer w room = by_held w (refused_by (short_log w then output_short room (length (record_in w))) (Answer.saved (record_in w))) (Answer.saved [])

-- ---- each call

abbrev pub answer_at : Call → Words → Answer
answer_at (Call.start s) w = refused_by (validate s then check_area (lengths w) s) Answer.done
answer_at (Call.restore bs) w = restored_answer (read_record (lengths w) bs)
answer_at (Call.reply r) w = reply_answer w r
answer_at (Call.take_back j) w = back_answer w j
answer_at (Call.question room) w = question_answer w room
answer_at (Call.report room) w = report_answer w room
answer_at Call.replies w = replies_answer w
answer_at (Call.entry k room) w = entry_answer w k room
answer_at (Call.save room) w = save_answer w room

abbrev pub is_none : {A : Type 0} → Option A → Bool
is_none None = true
is_none (Some a) = false

-- ---- what a refusal leaves

-- the area all zero, state and log as they are
abbrev pub zeroed : Words → Words
zeroed w = words w.state (replicate (length w.area) zero64) w.log

-- "refused at an entry": of a record, or of an altered log, whose replies that are to stay cannot all be read
abbrev pub entry_refused : Call → Words → Bool
entry_refused (Call.start s) w = false
entry_refused (Call.restore bs) w = at_entry (read_record (lengths w) bs)
entry_refused (Call.reply r) w = false
entry_refused (Call.take_back j) w = is_held w.state w.area && is_none (check_back w j) && is_none (replies_left j w)
entry_refused (Call.question room) w = false
entry_refused (Call.report room) w = false
entry_refused Call.replies w = false
entry_refused (Call.entry k room) w = false
entry_refused (Call.save room) w = false

-- every word, but that a refusal at an entry leaves the area all zero
abbrev pub refused_left : Call → Words → Words
refused_left c w = cond (entry_refused c w) (zeroed w) w
