-- What each exported operation does: with any words at all, and with words that hold a history. One record is one operation's contract.
-- At any words the answer is the table's (`answer_at`, specs/Table.antt), and the words after are said;
-- docs/PROOFS.md has the theorem that rests on each field.
use Rattle.std.specs.Prelude.{ℕ, ◌+◌, ◌-◌, ◌≤◌, ◌≡◌, cond, List, ◌++◌, length, take, drop, replicate}
use Rattle.std.specs.Prelude.{Option, None, Some}
use Rattle.definition.specs.Problem as P
use Rattle.definition.specs.Problem.{Refusal, Check}
use Rattle.definition.specs.Machine as M
use Rattle.definition.specs.Driver.{answer}
use Rattle.definition.specs.Log.{entry_words}
use Rattle.definition.specs.Book.{Book, book, opened_book, log_of}
use Rattle.definition.specs.Record.{Reading, read_record}
use Rattle.definition.specs.History as H
use Rattle.definition.specs.History.{Call, History, history_step, history_answer}
use Rattle.held.specs.Test.{is_held}
use Rattle.lbfgsb.specs.Words.{Words, lengths, setup_of, machine_in, log_in, Stands, Held, Holds}
use Rattle.lbfgsb.specs.Table.{answer_at, check_back, replies_left, zeroed}

-- ---- the history

-- c at the words w left w' and answered o: whatever history the words hold, they hold its next step, and the answer is the history's
pub record Did (c : Call) (w w' : Words) (o : H.Answer) : Type 0 where
  pub sized : lengths w' ≡ lengths w
  pub holds : (h : History) → Holds w h → Holds w' (history_step (lengths w) h c)
  pub said : (h : History) → Holds w h → o ≡ history_answer (lengths w) h c

-- ---- any words

-- a refusal leaves every word
abbrev pub Refuses : H.Answer → Words → Words → Type 0
Refuses o w w' = (r : Refusal) → o ≡ H.Answer.refused r → w' ≡ w

-- an output slice: `count` of it written, the rest as it was
pub record Written {A : Type 0} (count : ℕ) (out out' : List A) : Type 0 where
  pub within : count ≤ length out
  pub sized : length out' ≡ length out
  pub rest : drop count out' ≡ drop count out

-- start: the fit just opened is held
pub record Started (s : P.Setup) (w w' : Words) (o : H.Answer) : Type 0 where
  pub did : Did (Call.start s) w w' o
  pub always : o ≡ answer_at (Call.start s) w
  pub refuses : Refuses o w w'
  pub opened : o ≡ H.Answer.done → Held w' (opened_book s)
  pub log : w'.log ≡ w.log

-- restore: the record's entries stand in front of the log; only a refusal at an entry leaves the area zero
pub record Loaded (b : Book) (w w' : Words) : Type 0 where
  pub held : Held w' b
  pub log : w'.log ≡ log_of b ++ drop (length (log_of b)) w.log

abbrev pub Restores : Reading → Words → Words → Type 0
Restores (Reading.accepted b) w w' = Loaded b w w'
Restores (Reading.refused c) w w' = w' ≡ w
Restores (Reading.refused_at_entry c) w w' = w' ≡ zeroed w

pub record Restored (bs : List ℕ) (w w' : Words) (o : H.Answer) : Type 0 where
  pub did : Did (Call.restore bs) w w' o
  pub always : o ≡ answer_at (Call.restore bs) w
  pub restores : Restores (read_record (lengths w) bs) w w'

-- what an opening or a reading in tells of any words
abbrev pub Opening : Call → Words → Words → H.Answer → Type 0
Opening (Call.start s) w w' o = Started s w w' o
Opening (Call.restore bs) w w' o = Restored bs w w' o
Opening (Call.reply r) w w' o = Unit {0}
Opening (Call.take_back j) w w' o = Unit {0}
Opening (Call.question room) w w' o = Unit {0}
Opening (Call.report room) w w' o = Unit {0}
Opening Call.replies w w' o = Unit {0}
Opening (Call.entry k room) w w' o = Unit {0}
Opening (Call.save room) w w' o = Unit {0}

-- what the claim on every list of calls rests on, of each call: c at the words w left w' and answered o
pub record Stepped (c : Call) (w w' : Words) (o : H.Answer) : Type 0 where
  pub did : Did c w w' o
  pub opening : Opening c w w' o

-- reply: with any words that pass the test, the machine is advanced by the reply and its entry stands in the log
pub record Moved (r : M.Reply) (w w' : Words) : Type 0 where
  pub is : machine_in w' ≡ answer (machine_in w) r
  pub setup : setup_of w' ≡ setup_of w
  pub entries : w'.state.extra.entries ≡ w.state.extra.entries + 1
  pub words : w'.state.extra.words ≡ w.state.extra.words + length (entry_words r)
  pub log : w'.log ≡ log_in w ++ entry_words r ++ drop w'.state.extra.words w.log

pub record Replied (r : M.Reply) (w w' : Words) (o : H.Answer) : Type 0 where
  pub did : Did (Call.reply r) w w' o
  pub always : o ≡ answer_at (Call.reply r) w
  pub refuses : Refuses o w w'
  pub moved : o ≡ H.Answer.done → Moved r w w'

-- the log's words from the last entry that stays to the old last one are zero, the others as they were
pub record Shortened (w w' : Words) : Type 0 where
  pub words : w'.state.extra.words ≤ w.state.extra.words
  pub log : let old = w.state.extra.words in let new = w'.state.extra.words in
      w'.log ≡ take new w.log ++ replicate (old - new) 0 ++ drop old w.log

-- take back: the machine of the setup and the replies that stay
pub record Taken (rs : List M.Reply) (w w' : Words) : Type 0 where
  pub stands : Stands w' (book (setup_of w) rs)
  pub log : Shortened w w'

-- by the replies that are to stay
abbrev pub TakesReplies : Option (List M.Reply) → Words → Words → Type 0
TakesReplies (Some rs) w w' = Taken rs w w'
TakesReplies None w w' = w' ≡ zeroed w

-- 16 and 12 leave every word, and so does a taking back where no fit is held
abbrev pub TakesBack : ℕ → Check → Words → Words → Type 0
TakesBack j (Some r) w w' = w' ≡ w
TakesBack j None w w' = cond (is_held w.state w.area) (TakesReplies (replies_left j w) w w') (w' ≡ w)

pub record TakenBack (j : ℕ) (w w' : Words) (o : H.Answer) : Type 0 where
  pub did : Did (Call.take_back j) w w' o
  pub always : o ≡ answer_at (Call.take_back j) w
  pub back : TakesBack j (check_back w j) w w'

-- ---- reads: no word but the output's is written

-- how much of an output an answer takes
abbrev pub taken : H.Answer → ℕ
taken (H.Answer.refused r) = 0
taken H.Answer.done = 0
taken (H.Answer.asked None) = 0
taken (H.Answer.asked (Some q)) = length q.point
taken (H.Answer.reported r) = length r.point
taken (H.Answer.counted k) = 0
taken (H.Answer.entered ws) = length ws
taken (H.Answer.saved bs) = length bs

-- a read c with an output slice: the history's answer where the words hold one, and nothing past its end
pub record Read {A : Type 0} (c : Call) (w : Words) (o : H.Answer) (out out' : List A) : Type 0 where
  pub said : (h : History) → Holds w h → o ≡ history_answer (lengths w) h c
  pub always : o ≡ answer_at c w
  pub written : Written (taken o) out out'

-- how many replies are kept
pub record Counted (k : ℕ) (w : Words) : Type 0 where
  pub said : (h : History) → Holds w h → H.Answer.counted k ≡ history_answer (lengths w) h Call.replies
  pub always : H.Answer.counted k ≡ answer_at Call.replies w
