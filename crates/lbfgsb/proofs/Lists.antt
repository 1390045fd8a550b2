-- The claim on every list of calls (demand 3) for any relation D of one call of which two facts are known (`Known`). Assumes nothing.
-- Trace puts the contracts of the exported functions for D, and the crate `script` the steps of a script.
use Prim.Native.Nat.{ℕ, zero, suc, ◌*◌, ◌≤◌, ◌<◌}
use mathlib.Core.Path.{◌≡◌, refl, sym, ap, ◌∙◌, subst}
use mathlib.Core.Bool.{Bool, true, false, false≢true, beq, ◌&&◌, ◌||◌}
use mathlib.Core.List.{List, ◌∷◌}
use Rattle.std.specs.Prelude.{Option, None, Some}
use mathlib.Core.Logic.{◌↔◌}
use native.Mathlib.Omega.{arith}
use lib.Dec.{eqb, ltb}
use lib.ListN.{length, replicate, get_or-eq_default}
use lib.Ieee.Fits.{down_pos}
use borrow.Author.Tests.{eqb-true, ne_eqb, ltb-true, ltb-false, lt-ltb, le-ltb}
use lib.Ieee as Ieee
use lib.Ieee.{Float}
use Rattle.definition.specs.Number.{zero64, one64}
use Rattle.definition.specs.Vector.{word}
use Rattle.definition.specs.Problem.{Setup, Check, validate, ◌then◌, dimension}
use Rattle.definition.specs.Machine.{Question, question as question_of, report_now as report_of, unreported}
use Rattle.definition.specs.Book.{Book, opened_book, run_of, log_of, entry_at}
use Rattle.definition.specs.Record.{Lengths, Reading, plain_refusal, check_area, read_record, record_words, record_bytes}
use Rattle.definition.specs.Sound.{Sound}
use Rattle.definition.specs.History.{Call, Answer, History, check_question, left_by, refused_by, restored}
use Rattle.definition.specs.History.{restored_answer, history_step, history_answer, history_after, history_answers}
use Rattle.definition.proofs.Tests.{first_true}
use Rattle.definition.proofs.Histories.{is_read, read_stays, history_sound}
use Rattle.held.specs.Test.{is_held, mark_at, marked, is_ready}
use Rattle.held.proofs.Test.{and_no}
use Rattle.lbfgsb.specs.Words.{Words, lengths, Held, Holds}
use Rattle.lbfgsb.specs.Did.{Did, Opening, Stepped, Started, Restored, Restores}
use Rattle.lbfgsb.specs.Chain.{Chain, Blank, Opens, Allowed, FitIn, HasFit, Keeps, KeepsNone, After, Demand}

-- ---- words that hold no fit

and_no_left : (a b : Bool) → a ≡ false → a && b ≡ false
and_no_left a b h = rw h refl

-- no zero is the mark
zero_unmarked : (x : Float) → Ieee.eq x zero64 ≡ true → Ieee.eq x one64 ≡ false
unfolding Ieee.eq
zero_unmarked Ieee.nan e = refl
zero_unmarked (Ieee.inf s) e = refl
zero_unmarked (Ieee.fin s m x) e =
    let h = eqb-true (m * Ieee.up x * 1) (0 * Ieee.down x)
    (first_true (eqb (m * Ieee.up x * 1) (0 * Ieee.down x)) (beq s false || eqb (m * Ieee.up x * 1) 0) e) in
    let k = down_pos x in
    and_no_left (eqb (m * Ieee.up x * 1) (1 * Ieee.down x)) (beq s false || eqb (m * Ieee.up x * 1) 0)
    (ne_eqb (m * Ieee.up x * 1) (1 * Ieee.down x) (λ q. omega arith))

pub blank_unheld : (w : Words) → Blank w → Holds w History.empty
unfolding is_held Ieee.eq
blank_unheld w b = and_no (is_ready w.state (length w.area)) (marked w.state.shape w.area) (go (ltb at (length w.area)) refl)
  where
    at : ℕ
    at = mark_at w.state.shape

    go : (t : Bool) → ltb at (length w.area) ≡ t → Ieee.eq (word w.area at) one64 ≡ false
    go true q = zero_unmarked (word w.area at) (b.zeros at (ltb-true at (length w.area) q))
    go false q = ap (λ (x : Float). Ieee.eq x one64) (get_or-eq_default w.area Ieee.nan (ltb-false at (length w.area) q))

-- an area that is zero all through, as a refusal at an entry leaves it
zero_word : (k i : ℕ) → i < length (replicate k zero64) → Ieee.eq (word (replicate k zero64) i) zero64 ≡ true
unfolding Ieee.eq
zero_word zero i l = absurd (omega arith)
zero_word (suc k) zero l = refl
zero_word (suc k) (suc i) l = zero_word k i (omega (arith, l))

pub zeros_blank : (w : Words) (k : ℕ) → w.area ≡ replicate k zero64 → Blank w
zeros_blank w k e = record { zeros = subst (λ (a : List Float). (i : ℕ) → i < length a → Ieee.eq (word a i) zero64 ≡ true) (sym e) (zero_word k) }

pub fitted : (w : Words) (h : History) → Holds w h → FitIn w ↔ HasFit h
fitted w History.empty k = ((λ e. false≢true (sym k ∙ e)), (λ x. absurd x))
fitted w (History.fit b) k = ((λ e. tt), (λ x. k.stands.test))

-- ---- the history's answers, where no output is too short

question_answer_lem : (z : Lengths) (b : Book) (room : ℕ) → dimension b.setup ≤ room
    → history_answer z (History.fit b) (Call.question room) ≡ Answer.asked (question_of (run_of b))
question_answer_lem z b room l = ap (λ (c : Check). refused_by c (Answer.asked (question_of (run_of b)))) (go (question_of (run_of b)))
  where
    go : (q : Option Question) → check_question b room q ≡ None
    go None = refl
    go (Some q) = rw (le-ltb room (dimension b.setup) l) refl

report_answer_lem : (z : Lengths) (b : Book) (room : ℕ) → unreported (run_of b).phase ≡ false → dimension b.setup ≤ room
    → history_answer z (History.fit b) (Call.report room) ≡ Answer.reported (report_of (run_of b))
report_answer_lem z b room e l = rw (e, le-ltb room (dimension b.setup) l) refl

withheld_answer : (z : Lengths) (b : Book) (room : ℕ) → unreported (run_of b).phase ≡ true
    → history_answer z (History.fit b) (Call.report room) ≡ Answer.refused (plain_refusal 15)
withheld_answer z b room e = rw e refl

entry_answer_lem : (z : Lengths) (b : Book) (k room : ℕ) → length (log_of b) ≤ z.log → length (entry_at b.replies k) ≤ room
    → history_answer z (History.fit b) (Call.entry k room) ≡ Answer.entered (entry_at b.replies k)
entry_answer_lem z b k room f l = rw (le-ltb z.log (length (log_of b)) f, le-ltb room (length (entry_at b.replies k)) l) refl

save_answer_lem : (z : Lengths) (b : Book) (room : ℕ) → length (log_of b) ≤ z.log → 8 * length (record_words b) ≤ room
    → history_answer z (History.fit b) (Call.save room) ≡ Answer.saved (record_bytes b)
save_answer_lem z b room f l = rw (le-ltb z.log (length (log_of b)) f, le-ltb room (8 * length (record_words b)) l) refl

back_answer_lem : (z : Lengths) (j : ℕ) → 0 < j → history_answer z History.empty (Call.take_back j) ≡ Answer.refused (plain_refusal 16)
back_answer_lem z j l = rw (lt-ltb 0 j l) refl

-- ---- an accepted opening or reading in, at any words

check_passed : (c : Check) → Answer.done ≡ refused_by c Answer.done → c ≡ None
check_passed None e = refl
check_passed (Some r) e = cc

start_said : {s : Setup} {w w' : Words} → Started s w w' Answer.done → Answer.done ≡ history_answer (lengths w) History.empty (Call.start s)
start_said {s} {w} k =
    sym (ap (λ (c : Check). refused_by c Answer.done) (check_passed (validate s then check_area (lengths w) s) k.always))

start_opens : {s : Setup} {w w' : Words} → Started s w w' Answer.done → Holds w' (history_step (lengths w) History.empty (Call.start s))
start_opens {s} {w} {w'} k =
    let passed = check_passed (validate s then check_area (lengths w) s) k.always in
    subst (λ (c : Check). Holds w' (left_by c History.empty (History.fit (opened_book s)))) (sym passed) (k.opened refl)

restore_opens : {bs : List ℕ} {w w' : Words} → Restored bs w w' Answer.done → Holds w' (history_step (lengths w) History.empty (Call.restore bs))
restore_opens {bs} {w} {w'} k = go (read_record (lengths w) bs) k.always k.restores
  where
    go : (d : Reading) → Answer.done ≡ restored_answer d → Restores d w w' → Holds w' (restored History.empty d)
    go (Reading.accepted b) e r = r.held
    go (Reading.refused c) e r = cc
    go (Reading.refused_at_entry c) e r = cc

-- ---- a read leaves the words, and the history with them

pub read_did : {c : Call} {w : Words} {o : Answer} → is_read c ≡ true → ((h : History) → Holds w h → o ≡ history_answer (lengths w) h c) → Did c w w o
read_did {c} {w} e said = record { sized = refl; holds = λ h k. subst (Holds w) (sym (read_stays (lengths w) h c e)) k; said = said }

-- ---- every list, for a relation of one call

-- what is known of each call
pub record Known (D : Call → Words → Words → Answer → Type 0) : Type 0 where
  pub did : {c : Call} {w w' : Words} {o : Answer} → D c w w' o → Did c w w' o
  pub opening : {c : Call} {w w' : Words} {o : Answer} → D c w w' o → Opening c w w' o

pub stepped : Known Stepped
stepped = record { did = λ d. d.did; opening = λ d. d.opening }

module _ {D : Call → Words → Words → Answer → Type 0} (known : Known D) where
  pub sized : {w w' : Words} {cs : List Call} {os : List Answer} → Chain D w cs os w' → lengths w' ≡ lengths w
  sized Chain.end = refl
  sized (Chain.call d ds) = sized ds ∙ (known.did d).sized

  -- from words that hold a history
  pub from : {w w' : Words} {cs : List Call} {os : List Answer} → Chain D w cs os w' → (z : Lengths) (h : History) → lengths w ≡ z → Holds w h
      → After z h cs os w'
  unfolding history_after history_answers
  from Chain.end z h q k = record { holds = k; said = refl; sized = q }
  from (Chain.call {c} {cs} {o} {os} {w} {w'} d ds) z h q k =
      let e = known.did d in
      let k' : Holds w' (history_step z h c) = subst (λ (x : Lengths). Holds w' (history_step x h c)) q (e.holds h k) in
      let r = from ds z (history_step z h c) (e.sized ∙ q) k' in
      let s : o ≡ history_answer z h c = subst (λ (x : Lengths). o ≡ history_answer x h c) q (e.said h k) in
      let t = r.said in
      record { holds = r.holds; said = cc; sized = r.sized }

  -- what calls find
  pub keeps : {w : Words} {b : Book} → Held w b → Sound (lengths w) b → Keeps D w b
  keeps {w} {b} k sound =
      let h = History.fit b in
      let z = lengths w in
      record {
        sound = sound;
        entries = k.stands.entries;
        words = k.stands.words;
        log = k.stands.log;
        question = λ {room} d l. (known.did d).said h k ∙ question_answer_lem z b room l;
        report = λ {room} d e l. (known.did d).said h k ∙ report_answer_lem z b room e l;
        withheld = λ {room} d e. (known.did d).said h k ∙ withheld_answer z b room e;
        replies = λ d. (known.did d).said h k;
        entry = λ {k = i} {room} d l. (known.did d).said h k ∙ entry_answer_lem z b i room sound.log l;
        save = λ {room} d l. (known.did d).said h k ∙ save_answer_lem z b room sound.log l;
      }

  keeps_none : {w : Words} → Holds w History.empty → KeepsNone D w
  keeps_none {w} k = record {
    question = λ d. (known.did d).said History.empty k;
    report = λ d. (known.did d).said History.empty k;
    reply = λ d. (known.did d).said History.empty k;
    back = λ {j} d l. (known.did d).said History.empty k ∙ back_answer_lem (lengths w) j l;
    replies = λ d. (known.did d).said History.empty k;
    entry = λ d. (known.did d).said History.empty k;
    save = λ d. (known.did d).said History.empty k;
  }

  demand : {w w' : Words} {cs : List Call} {os : List Answer} → After (lengths w) History.empty cs os w' → Demand D w cs os w'
  demand {w} {w'} {cs} a =
      let z = lengths w in
      let h = history_after z History.empty cs in
      record {
        answers = a.said;
        fit = fitted w' h a.holds;
        sized = a.sized;
        keeps = λ b e. keeps (subst (Holds w') e a.holds) (subst (λ (x : Lengths). Sound x b) (sym a.sized) (history_sound z cs b e));
        empty = λ e. keeps_none (subst (Holds w') e a.holds);
        further = λ d. (from d z h a.sized a.holds).said;
      }

  -- the first call, answered as the history says, and the rest
  then_rest : {c : Call} {cs : List Call} {o : Answer} {os : List Answer} {w w' w'' : Words}
      → D c w w' o → o ≡ history_answer (lengths w) History.empty c → Holds w' (history_step (lengths w) History.empty c) → Chain D w' cs os w''
      → After (lengths w) History.empty (c ∷ cs) (o ∷ os) w''
  unfolding history_after history_answers
  then_rest {c} {cs} {o} {os} {w} d e k ds =
      let r = from ds (lengths w) (history_step (lengths w) History.empty c) (known.did d).sized k in
      let said = r.said in
      record { holds = r.holds; said = cc; sized = r.sized }

  after_opening : {w w' : Words} {cs : List Call} {os : List Answer} → Opens cs os → Chain D w cs os w' → After (lengths w) History.empty cs os w'
  after_opening Opens.started (Chain.call d ds) =
      let k = known.opening d in
      then_rest d (start_said k) (start_opens k) ds
  after_opening Opens.restored (Chain.call d ds) =
      let k = known.opening d in
      then_rest d k.always (restore_opens k) ds

  -- from words that hold no fit, or from any words with an accepted opening or reading in first
  pub after : {w w' : Words} {cs : List Call} {os : List Answer} → Allowed w cs os → Chain D w cs os w' → After (lengths w) History.empty cs os w'
  after {w} (Allowed.blank b) ch = from ch (lengths w) History.empty refl (blank_unheld w b)
  after (Allowed.opens p) ch = after_opening p ch

  pub every : {w w' : Words} {cs : List Call} {os : List Answer} → Allowed w cs os → Chain D w cs os w' → Demand D w cs os w'
  every p ch = demand (after p ch)
