-- The history on document 01's first starred case: every answer of a list of calls, the refusals among them, and the record there and back.
-- By computation; assumes nothing.
use Prim.Native.Nat.{ℕ}
use mathlib.Core.Path.{◌≡◌, refl}
use mathlib.Core.List.{List, [], ◌∷◌}
use Rattle.std.specs.Prelude.{Option, None, Some}
use lib.Ieee.{Float}
use Rattle.definition.specs.Number.{zero64, one64, to_word}
use Rattle.definition.specs.Machine.{Reply, Question}
use Rattle.definition.specs.Book.{Book, book, opened_book}
use Rattle.definition.specs.Record.{Lengths, Reading, read_record, record_bytes}
use Rattle.definition.specs.History.{Call, Answer, History, history_after, history_answers}
use Rattle.definition.specs.Starred.{parabola, parabola_replies, four, eight, reported, setup}
use Rattle.definition.proofs.Opened.{opened}

abbrev refused : ℕ → ℕ → ℕ → Answer
refused number a b = Answer.refused (record { number = number; first = a; second = b })

abbrev lengths : ℕ → ℕ → Lengths
lengths area log = record { area = area; log = log }

abbrev value_at : Float → Option Question
value_at x = Some (record { kind = 1; point = x ∷ [] })

abbrev fitted : Book
fitted = book parabola parabola_replies

-- each call with its answer; the area needs 496 words, the entries of the case are 9
infixl 20 ◌gives◌
pub data Step : Type 0 where
  ◌gives◌ : Call → Answer → Step

abbrev calls : List Step → List Call
calls [] = []
calls ((c gives a) ∷ ss) = c ∷ calls ss

abbrev answers : List Step → List Answer
answers [] = []
answers ((c gives a) ∷ ss) = a ∷ answers ss

abbrev pub script : List Step
script =
    -- nothing is held
    (Call.question 0 gives Answer.asked None)
    ∷ (Call.report 1 gives refused 15 0 0)
    ∷ (Call.reply Reply.failure gives refused 13 0 0)
    ∷ (Call.take_back 1 gives refused 16 0 0)
    ∷ (Call.take_back 0 gives Answer.done)
    ∷ (Call.replies gives Answer.counted 0)
    ∷ (Call.entry 0 0 gives Answer.entered [])
    ∷ (Call.save 0 gives Answer.saved [])
    ∷ (Call.start (setup [] None None None) gives refused 1 0 0)
    -- a fit is opened
    ∷ (Call.start parabola gives Answer.done)
    ∷ (Call.question 0 gives refused 19 1 0)
    ∷ (Call.question 1 gives Answer.asked (value_at four))
    ∷ (Call.report 1 gives refused 15 0 0)
    ∷ (Call.reply Reply.go_on gives refused 13 0 0)
    ∷ (Call.reply (Reply.value (to_word eight)) gives Answer.done)
    ∷ (Call.reply (Reply.gradient (0 ∷ 0 ∷ [])) gives refused 14 1 2)
    ∷ (Call.reply (Reply.gradient (to_word four ∷ [])) gives Answer.done)
    ∷ (Call.question 1 gives Answer.asked (value_at zero64))
    -- a reply is taken back and given anew
    ∷ (Call.reply (Reply.value (to_word one64)) gives Answer.done)
    ∷ (Call.take_back 4 gives refused 16 0 0)
    ∷ (Call.take_back 1 gives Answer.done)
    ∷ (Call.reply (Reply.value (to_word zero64)) gives Answer.done)
    ∷ (Call.reply (Reply.gradient (to_word zero64 ∷ [])) gives Answer.done)
    ∷ (Call.reply Reply.go_on gives Answer.done)
    -- the fit has ended
    ∷ (Call.question 0 gives Answer.asked None)
    ∷ (Call.report 0 gives refused 19 1 0)
    ∷ (Call.report 1 gives Answer.reported (reported 1 1 2 2 zero64 zero64))
    ∷ (Call.reply Reply.go_on gives refused 13 0 0)
    ∷ (Call.replies gives Answer.counted 5)
    ∷ (Call.entry 0 1 gives refused 19 2 0)
    ∷ (Call.entry 0 2 gives Answer.entered (1 ∷ to_word eight ∷ []))
    ∷ (Call.entry 5 0 gives Answer.entered [])
    ∷ (Call.save 183 gives refused 19 184 0)
    ∷ (Call.save 184 gives Answer.saved (record_bytes fitted))
    ∷ []

pub script_answered : history_answers (lengths 496 9) History.empty (calls script) ≡ answers script
unfolding opened
script_answered = refl

pub script_kept : history_after (lengths 496 9) History.empty (calls script) ≡ History.fit fitted
unfolding opened
script_kept = refl

-- a log of 8 words, an area of 495
abbrev at_notice : List Reply
at_notice = Reply.gradient (0 ∷ []) ∷ Reply.value 0 ∷ Reply.gradient (to_word four ∷ []) ∷ Reply.value (to_word eight) ∷ []

pub too_short :
    (history_answers (lengths 496 8) (History.fit (book parabola at_notice)) (Call.reply Reply.go_on ∷ []) ≡ refused 12 0 0 ∷ [])
    × (history_answers (lengths 495 9) History.empty (Call.start parabola ∷ []) ≡ refused 11 496 0 ∷ [])
unfolding opened
too_short = (refl, refl)

pub there_and_back : read_record (lengths 496 9) (record_bytes fitted) ≡ Reading.accepted fitted
unfolding opened
there_and_back = refl

-- a record whose entries do not fit the log empties the history; one whose area is too short does not
pub emptied :
    (history_after (lengths 496 8) (History.fit (opened_book parabola)) (Call.restore (record_bytes fitted) ∷ []) ≡ History.empty)
    × (history_after (lengths 495 8) (History.fit (opened_book parabola)) (Call.restore (record_bytes fitted) ∷ []) ≡ History.fit (opened_book parabola))
unfolding opened
emptied = (refl, refl)
