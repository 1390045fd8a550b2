-- Demands 1 and 3, in document 01's words: lists of calls, where they may start, and what is claimed of each.
-- `D c w w' o` is "the call c at the words w left w' and answered o": proofs/Trace.antt puts the contracts of the exported functions there,
-- and the crate `script` what is known of each of its steps (`Did.Stepped`).
-- The history is document 01's book (`history_after`, from the empty one), its replies newest first; `in_order` has them in the order given.
use Rattle.std.specs.Prelude.{ℕ, ◌+◌, ◌-◌, ◌*◌, ◌≤◌, ◌<◌, ◌≡◌, Bool, true, false, cond, ◌↔◌, ◌⊎◌, List, [], ◌∷◌, ◌++◌, T, length, take, drop, replicate, Float}
use Rattle.std.specs.Prelude.{Option, None, Some}
use Rattle.std.specs.Float.Ieee as Ieee
use Rattle.std.specs.Float.Ieee.Scale.{finite}
use Rattle.definition.specs.Number.{to_float, zero64}
use Rattle.definition.specs.Vector.{word}
use Rattle.definition.specs.Problem.{Setup, Refusal, dimension, or_else, projected_start, terms_of, limits_of}
use Rattle.definition.specs.Compact.{wrap}
use Rattle.definition.specs.Machine.{Reply, Question, Report, is_value, is_notice, is_failure, question as question_of, report_now as report_of, unreported}
use Rattle.definition.specs.Driver.{answer, run}
use Rattle.definition.specs.Log.{entry_words}
use Rattle.definition.specs.Book.{Book, book, opened_book, run_of, log_of, entry_at}
use Rattle.definition.specs.Record.{Lengths, Reading, plain_refusal, read_record, record_words, record_bytes}
use Rattle.definition.specs.Replies.{count_of, open_of, first_value}
use Rattle.definition.specs.Facts.{gradients_completed}
use Rattle.definition.specs.Points.{last_taken, OwnOf, InBox}
use Rattle.definition.specs.Sound.{Sound, refused_at_entry}
use Rattle.definition.specs.History.{Call, Answer, History, refusals_of, among, history_after, history_answers}
use Rattle.definition.specs.Ordered.{in_order, run_in_order, log_in_order, InOrder}
use Rattle.area.specs.Area.{place_slot, first_column, vectors}
use Rattle.compact.specs.declared.Shape.{Shape}
use Rattle.held.specs.Test.{is_held, mark_at, marked}
use Rattle.lbfgsb.specs.Words.{Words, lengths, setup_of, machine_in, log_in, Stands, Holds}
use Rattle.lbfgsb.specs.Table.{answer_at, replies_left, zeroed, refused_left}

-- ---- lists of calls

-- each call at the words that the last one left
pub data Chain (D : Call → Words → Words → Answer → Type 0) : Words → List Call → List Answer → Words → Type 0 where
  end : {w : Words} → Chain D w [] [] w
  call : {c : Call} {cs : List Call} {o : Answer} {os : List Answer} {w w' w'' : Words} → D c w w' o → Chain D w' cs os w'' → Chain D w (c ∷ cs) (o ∷ os) w''

-- Words hold no fit where the area is all zero, of either sign, whatever state and log say.
pub record Blank (w : Words) : Type 0 where
  pub zeros : (i : ℕ) → i < length w.area → Ieee.eq (word w.area i) zero64 ≡ true

-- the list begins with an opening or a reading in that is accepted
pub data Opens : List Call → List Answer → Type 0 where
  started : {s : Setup} {cs : List Call} {os : List Answer} → Opens (Call.start s ∷ cs) (Answer.done ∷ os)
  restored : {bs : List ℕ} {cs : List Call} {os : List Answer} → Opens (Call.restore bs ∷ cs) (Answer.done ∷ os)

-- where the claim holds: from words that hold no fit, or from any words if the list opens a fit
pub data Allowed (w : Words) (cs : List Call) (os : List Answer) : Type 0 where
  blank : Blank w → Allowed w cs os
  opens : Opens cs os → Allowed w cs os

-- the test for a held fit, which the code makes on any words
abbrev pub FitIn : Words → Type 0
FitIn w = is_held w.state w.area ≡ true

abbrev pub HasFit : History → Type 0
HasFit History.empty = ⊥
HasFit (History.fit b) = Unit {0}

-- ---- what words hold

-- What calls find in words that keep the fit of the book b. An output that is too short is refused by 19: the history's answers say when.
pub record Keeps (D : Call → Words → Words → Answer → Type 0) (w : Words) (b : Book) : Type 0 where
  -- the setup is accepted, each reply was due when it was given, area and log are long enough
  pub sound : Sound (lengths w) b
  -- the log holds the replies kept: so many entries, of so many words, and up to the last of them the log is theirs
  pub entries : w.state.extra.entries ≡ length b.replies
  pub words : w.state.extra.words ≡ length (log_of b)
  pub log : take w.state.extra.words w.log ≡ log_of b
  -- the open question, or none, is the definition's
  pub question : {room : ℕ} {o : Answer} {v : Words} → D (Call.question room) w v o → dimension b.setup ≤ room → o ≡ Answer.asked (question_of (run_of b))
  -- so are the seven fields of a report; 15 before the first value reply, and after a failure
  pub report : {room : ℕ} {o : Answer} {v : Words} → D (Call.report room) w v o → unreported (run_of b).phase ≡ false → dimension b.setup ≤ room
      → o ≡ Answer.reported (report_of (run_of b))
  pub withheld : {room : ℕ} {o : Answer} {v : Words} → D (Call.report room) w v o → unreported (run_of b).phase ≡ true → o ≡ Answer.refused (plain_refusal 15)
  -- the replies kept, and entry k of the log, from 0 the oldest
  pub replies : {o : Answer} {v : Words} → D Call.replies w v o → o ≡ Answer.counted (length b.replies)
  pub entry : {k room : ℕ} {o : Answer} {v : Words} → D (Call.entry k room) w v o → length (entry_at b.replies k) ≤ room
      → o ≡ Answer.entered (entry_at b.replies k)
  -- a saving writes the record of setup and log
  pub save : {room : ℕ} {o : Answer} {v : Words} → D (Call.save room) w v o → 8 * length (record_words b) ≤ room → o ≡ Answer.saved (record_bytes b)

-- What calls find in words with no fit: there is no open question, and a saving writes nothing.
pub record KeepsNone (D : Call → Words → Words → Answer → Type 0) (w : Words) : Type 0 where
  pub question : {room : ℕ} {o : Answer} {v : Words} → D (Call.question room) w v o → o ≡ Answer.asked None
  pub report : {room : ℕ} {o : Answer} {v : Words} → D (Call.report room) w v o → o ≡ Answer.refused (plain_refusal 15)
  pub reply : {r : Reply} {o : Answer} {v : Words} → D (Call.reply r) w v o → o ≡ Answer.refused (plain_refusal 13)
  pub back : {j : ℕ} {o : Answer} {v : Words} → D (Call.take_back j) w v o → 0 < j → o ≡ Answer.refused (plain_refusal 16)
  pub replies : {o : Answer} {v : Words} → D Call.replies w v o → o ≡ Answer.counted 0
  pub entry : {k room : ℕ} {o : Answer} {v : Words} → D (Call.entry k room) w v o → o ≡ Answer.entered []
  pub save : {room : ℕ} {o : Answer} {v : Words} → D (Call.save room) w v o → o ≡ Answer.saved []

-- ---- a history and the calls after it

-- From the history h, with area and log of the lengths z, the calls cs were answered os and left w'.
pub record After (z : Lengths) (h : History) (cs : List Call) (os : List Answer) (w' : Words) : Type 0 where
  -- the words hold the history after the calls
  pub holds : Holds w' (history_after z h cs)
  -- every answer is the history's
  pub said : os ≡ history_answers z h cs
  pub sized : lengths w' ≡ z

-- ---- demand 3

-- The calls cs at the words w were answered os and left w'. The history sees the calls, and of area and log the lengths.
pub record Demand (D : Call → Words → Words → Answer → Type 0) (w : Words) (cs : List Call) (os : List Answer) (w' : Words) : Type 0 where
  -- every answer, refusals with their details, is the history's
  pub answers : os ≡ history_answers (lengths w) History.empty cs
  -- a fit is held exactly when the history has one
  pub fit : FitIn w' ↔ HasFit (history_after (lengths w) History.empty cs)
  pub sized : lengths w' ≡ lengths w
  -- with a fit held, and with none
  pub keeps : (b : Book) → history_after (lengths w) History.empty cs ≡ History.fit b → Keeps D w' b
  pub empty : history_after (lengths w) History.empty cs ≡ History.empty → KeepsNone D w'
  -- whatever list is called next is answered from the history
  pub further : {ds : List Call} {ps : List Answer} {v : Words} → Chain D w' ds ps v
      → ps ≡ history_answers (lengths w) (history_after (lengths w) History.empty cs) ds

-- What the words w hold of the book b, its replies in the order in which they were given. That an accepted reply is added at the end of them, that a
-- taking back of j strikes the last j, and what an entry is in that order: `InOrder b` of the definition, a part of it here.
pub record HoldsInOrder (w : Words) (b : Book) : Type 0 where
  pub book : InOrder b
  pub entries : w.state.extra.entries ≡ length (in_order b)
  pub machine : machine_in w ≡ run_in_order b.setup (in_order b)
  pub log : take w.state.extra.words w.log ≡ log_in_order (in_order b)

-- ---- any words at all (demand 1)

-- An accepted reply: the machine is advanced by it, the setup stays, one more reply is kept, and its entry is the log's last.
pub record Advanced (r : Reply) (w w' : Words) : Type 0 where
  pub machine : machine_in w' ≡ answer (machine_in w) r
  pub setup : setup_of w' ≡ setup_of w
  pub replies : w'.state.extra.entries ≡ w.state.extra.entries + 1
  pub log : log_in w' ≡ log_in w ++ entry_words r

-- the setup and the replies of a record that is accepted
abbrev pub ReadIn : Reading → Words → Type 0
ReadIn (Reading.accepted b) w' = Stands w' b
ReadIn (Reading.refused c) w' = ⊥
ReadIn (Reading.refused_at_entry c) w' = ⊥

-- the setup held, and the replies that are to stay
abbrev pub Stay : Option (List Reply) → Words → Words → Type 0
Stay None w w' = ⊥
Stay (Some rs) w w' = Stands w' (book (setup_of w) rs)

-- what a call that is not refused leaves: the definition's machine of the setup and the replies kept, read off state, area and log; a read leaves every word
abbrev pub Result : Call → Words → Words → Type 0
Result (Call.start s) w w' = Stands w' (opened_book s)
Result (Call.restore bs) w w' = ReadIn (read_record (lengths w) bs) w'
Result (Call.reply r) w w' = Advanced r w w'
Result (Call.take_back j) w w' = cond (is_held w.state w.area) (Stay (replies_left j w) w w') (w' ≡ w)
Result (Call.question room) w w' = w' ≡ w
Result (Call.report room) w w' = w' ≡ w
Result Call.replies w w' = w' ≡ w
Result (Call.entry k room) w w' = w' ≡ w
Result (Call.save room) w w' = w' ≡ w

-- the last words of the log's entries are zeroed; those past them are as they were
pub record Struck (w w' : Words) : Type 0 where
  pub fewer : w'.state.extra.words ≤ w.state.extra.words
  pub zeroed : let k = w.state.extra.words - w'.state.extra.words in take k (drop w'.state.extra.words w'.log) ≡ replicate k 0
  pub past : drop w.state.extra.words w'.log ≡ drop w.state.extra.words w.log

abbrev pub Past : Words → Words → Type 0
Past w w' = drop w'.state.extra.words w'.log ≡ drop w'.state.extra.words w.log

-- After each call the log's words past its last entry are as they were, those that a taking back zeroes aside. An opening writes none.
abbrev pub LogPast : Call → Words → Words → Type 0
LogPast (Call.start s) w w' = w'.log ≡ w.log
LogPast (Call.restore bs) w w' = Past w w'
LogPast (Call.reply r) w w' = Past w w'
LogPast (Call.take_back j) w w' = Struck w w'
LogPast (Call.question room) w w' = Past w w'
LogPast (Call.report room) w w' = Past w w'
LogPast Call.replies w w' = Past w w'
LogPast (Call.entry k room) w w' = Past w w'
LogPast (Call.save room) w w' = Past w w'

abbrev pub is_refused : Answer → Bool
is_refused (Answer.refused r) = true
is_refused Answer.done = false
is_refused (Answer.asked q) = false
is_refused (Answer.reported r) = false
is_refused (Answer.counted k) = false
is_refused (Answer.entered ws) = false
is_refused (Answer.saved bs) = false

-- A call at any words at all.
pub record Exact (c : Call) (w w' : Words) (o : Answer) : Type 0 where
  -- the answer is the one that the table fixes: the first refusal whose condition holds, with its details, or the result
  pub answer : o ≡ answer_at c w
  -- a refusal changes no word, but that one at an entry leaves the area all zero
  pub refused : is_refused o ≡ true → w' ≡ refused_left c w
  pub result : is_refused o ≡ false → Result c w w'
  pub past : LogPast c w w'
  pub sized : lengths w' ≡ lengths w

-- Its number, where it is refused, is one that the table has for its place.
pub record Answered (c : Call) (o : Answer) : Type 0 where
  pub number : (r : Refusal) → o ≡ Answer.refused r → among r.number (refusals_of c) ≡ true

-- ---- what a call leaves as it was, after a list that the history follows

-- A refused call leaves every word, but for a reading in refused at an entry, which leaves the area all zero.
pub record Leaves (c : Call) (w w' : Words) : Type 0 where
  pub kept : refused_at_entry (lengths w) c ≡ false → w' ≡ w
  pub zeroed : refused_at_entry (lengths w) c ≡ true → w' ≡ zeroed w

-- ---- outputs

-- what an answer puts into an output of floats, and into one of words or bytes
abbrev pub floats_of : Answer → List Float
floats_of (Answer.refused r) = []
floats_of Answer.done = []
floats_of (Answer.asked None) = []
floats_of (Answer.asked (Some q)) = q.point
floats_of (Answer.reported r) = r.point
floats_of (Answer.counted k) = []
floats_of (Answer.entered ws) = []
floats_of (Answer.saved bs) = []

abbrev pub numbers_of : Answer → List ℕ
numbers_of (Answer.refused r) = []
numbers_of Answer.done = []
numbers_of (Answer.asked q) = []
numbers_of (Answer.reported r) = []
numbers_of (Answer.counted k) = []
numbers_of (Answer.entered ws) = ws
numbers_of (Answer.saved bs) = bs

-- an output: the answer's part at its front, the rest as it was
abbrev pub Output : {A : Type 0} → List A → List A → List A → Type 0
Output front out out' = out' ≡ front ++ drop (length front) out

-- ---- every fit held

-- at most 2 maxfev + maxiter replies, and with that many the fit has ended
pub record Bounded (s : Setup) (rs : List Reply) : Type 0 where
  pub most : length rs ≤ 2 * (limits_of s).maxfev + (limits_of s).maxiter
  pub ended : length rs ≡ 2 * (limits_of s).maxfev + (limits_of s).maxiter → question_of (run s rs) ≡ None

-- ---- the fit, once there is a value reply and no failure

pub record Valued (rs : List Reply) : Type 0 where
  pub value : 1 ≤ count_of is_value rs
  pub whole : count_of is_failure rs ≡ 0

-- What a report r says of the setup s and the replies rs kept, newest first. Each field is a theorem of the definition.
pub record Fitted (s : Setup) (rs : List Reply) (r : Report) : Type 0 where
  pub sized : length r.point ≡ dimension s
  -- the point is the clipped start, or the last trial taken
  pub point : r.point ≡ or_else (last_taken s rs) (projected_start s)
  -- the value is the reply to that point's own question: at the start the first value reply, at a trial the reply to that trial
  pub own : OwnOf (last_taken s rs) s rs r.point r.value
  -- there is a first reply, and the value is not above it where it is finite
  pub first : (w : ℕ) × (first_value rs ≡ Some w)
  pub below : (w : ℕ) → first_value rs ≡ Some w → T (finite (to_float w)) → T (finite r.value) × T (Ieee.le r.value (to_float w))
  -- each coordinate lies within its bounds, so none is a NaN
  pub box : InBox (terms_of s) r.point
  pub number : (i : ℕ) → i < dimension s → Ieee.is_nan (word r.point i) ≡ false
  -- the value replies and the open value question; the notice replies and the open notice; the gradients completed
  pub nfev : r.nfev ≡ count_of is_value rs + open_of 1 (run s rs)
  pub nit : r.nit ≡ count_of is_notice rs + open_of 3 (run s rs)
  pub njev : r.njev ≡ gradients_completed s rs
  pub drawn : r.drawn ≡ r.nfev
  -- within the budgets that apply
  pub values : r.nfev ≤ (limits_of s).maxfev
  pub iterations : r.nit ≤ (limits_of s).maxiter

-- the point of a question that is open
pub record Asks (s : Setup) (q : Question) : Type 0 where
  pub box : InBox (terms_of s) q.point
  pub number : (i : ℕ) → i < dimension s → Ieee.is_nan (word q.point i) ≡ false

-- ---- lists alike

-- Scratch are the area's vectors 8 to 15 (four that no call reads before it writes them, and the four free ones), the two of a place of the ring that no pair
-- is in, the columns of W, and the words behind the mark.
-- `Unused h p`: of the pairs, oldest first, none is in place p.
abbrev pub Unused : Shape → ℕ → Type 0
Unused h p = (k : ℕ) → k < h.pairs → wrap h.m (h.oldest + k) ≡ p → ⊥

pub data ScratchVector (h : Shape) (q : ℕ) : Type 0 where
  between : 8 ≤ q → q < 16 → ScratchVector h q
  place : (p : ℕ) → p < h.m → Unused h p → (q ≡ place_slot p) ⊎ (q ≡ place_slot p + 1) → ScratchVector h q
  column : first_column h.m ≤ q → q < vectors h.m → ScratchVector h q

-- word i of the area
pub data Scratch (h : Shape) (i : ℕ) : Type 0 where
  within : (q k : ℕ) → i ≡ q * h.n + k → k < h.n → ScratchVector h q → Scratch h i
  behind : mark_at h < i → Scratch h i

-- Two words agree, scratch aside: all of the state, every word of the area that is not scratch, and the log up to its last entry.
pub record Agree (w v : Words) : Type 0 where
  pub state : w.state ≡ v.state
  pub area : (i : ℕ) → i < length w.area → (i ≡ mark_at w.state.shape → ⊥) → Scratch w.state.shape i ⊎ (word w.area i ≡ word v.area i)
  -- the mark is 1 in both (Areas.mark-same: the same word, in areas of binary64)
  pub mark : (marked w.state.shape w.area ≡ true) × (marked v.state.shape v.area ≡ true)
  pub log : take w.state.extra.words w.log ≡ take v.state.extra.words v.log
  pub sized : lengths w ≡ lengths v

-- They agree, every list of further calls is answered alike at both, outputs included, and leaves words that agree again while a fit is held.
pub record Alike (D : Call → Words → Words → Answer → Type 0) (w v : Words) : Type 0 where
  pub agree : Agree w v
  pub answers : {ds : List Call} {ps qs : List Answer} {w' v' : Words} → Chain D w ds ps w' → Chain D v ds qs v' → ps ≡ qs
  pub again : {ds : List Call} {ps qs : List Answer} {w' v' : Words} → Chain D w ds ps w' → Chain D v ds qs v' → FitIn w' → Agree w' v'
