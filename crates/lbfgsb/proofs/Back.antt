-- Laws of taking back: at any words and at words that hold a history. Assumes nothing.
use Prim.Native.Nat.{ℕ, ◌+◌, ◌-◌, ◌≤◌}
use native.Mathlib.Omega.{arith}
use mathlib.Core.Path.{◌≡◌, refl, sym, ap, ap₂, ◌∙◌, subst}
use mathlib.Core.Bool.{Bool, true, false, false≢true}
use mathlib.Core.List.{List, ◌++◌, append_assoc}
use Rattle.std.specs.Prelude.{Option, None, Some, Result, Ok, Err}
use lib.Dec.{ltb}
use lib.ListN.{length, take, drop, replicate, length-append, length-drop, length-replicate}
use lib.Seq.{take_at, take-take, length-take-le}
use lib.Ieee.{Float}
use borrow.Author.Tests.{le-ltb}
use Rattle.definition.specs.Number.{zero64}
use Rattle.definition.specs.Problem.{Setup, Refusal, Check, refuse, when, ◌then◌}
use Rattle.definition.specs.Machine as M
use Rattle.definition.specs.Log.{log_words, entries_kept}
use Rattle.definition.specs.Book.{Book, book, struck}
use Rattle.definition.specs.History as H
use Rattle.definition.specs.History.{Call, History, call_row, left_by, refused_by}
use Rattle.problem.specs.Setups.{refusal_of}
use Rattle.problem.specs.declared.Refusal as Q
use Rattle.fit.specs.declared.Fit.{Fit}
use Rattle.held.specs.Test.{is_held}
use Rattle.held.proofs.Test.{is_held_lem}
use Rattle.replay.specs.Replays.{ReplayedTo}
use Rattle.lbfgsb.specs.Words.{Words, words, lengths, setup_of, log_in, Stands, Held, Holds}
use Rattle.lbfgsb.specs.Bridge.{next, kept}
use Rattle.lbfgsb.specs.Did.{Shortened, Taken, TakesReplies, TakesBack, TakenBack}
use Rattle.lbfgsb.specs.Table.{check_back, replies_left, stay_answer}
use Rattle.rebuild.specs.Built.{struck_out, Built, Cut, Stays, Shortens}
use Rattle.rebuild.proofs.Reread.{log_kept, all_kept}

-- ---- the check is the history's

abbrev check_held : Words → ℕ → Check
check_held w j = when (ltb w.state.extra.entries j) (refuse 16 0 0) then when (ltb (length w.log) w.state.extra.words) (refuse 12 0 0)

check_held_lem : (w : Words) (j : ℕ) → is_held w.state w.area ≡ true → check_back w j ≡ check_held w j
check_held_lem w j h = rw h

check_empty : (w : Words) (j : ℕ) → is_held w.state w.area ≡ false → check_back w j ≡ when (ltb 0 j) (refuse 16 0 0)
check_empty w j h = rw h

check_same : (w : Words) (j : ℕ) (h : History) → Holds w h → (call_row (lengths w) h (Call.take_back j)).check ≡ check_back w j
check_same w j History.empty k = sym (check_empty w j k)
check_same w j (History.fit b) k =
    ap₂ (λ (e c : ℕ). when (ltb e j) (refuse 16 0 0) then when (ltb (length w.log) c) (refuse 12 0 0)) (sym k.stands.entries) (sym k.stands.words)
    ∙ sym (check_held_lem w j k.stands.test)

-- what an accepted taking back of j leaves of a history
abbrev left_over : Words → History → ℕ → History
left_over w h j = (call_row (lengths w) h (Call.take_back j)).left

-- ---- every word stays

back_refused : (w : Words) (j : ℕ) (r : Refusal) → check_back w j ≡ Some r → TakenBack j w w (H.Answer.refused r)
back_refused w j r e = record {
  did = record {
    sized = refl;
    holds = λ h k. subst (λ (o : Check). Holds w (left_by o h (left_over w h j))) (sym (check_same w j h k ∙ e)) k;
    said = λ h k. ap (λ (o : Check). refused_by o (call_row (lengths w) h (Call.take_back j)).answer) (sym (check_same w j h k ∙ e));
  };
  always = sym (rw e refl);
  back = subst (λ (o : Check). TakesBack j o w w) (sym e) refl;
}

-- by the refusal that the code answers
pub back_by : (w : Words) (j : ℕ) (c : Q.Refusal) (r : Refusal) → refusal_of c ≡ r → check_back w j ≡ Some r → TakenBack j w w (H.Answer.refused (refusal_of c))
back_by w j c r e h = subst (λ (x : Refusal). TakenBack j w w (H.Answer.refused x)) (sym e) (back_refused w j r h)

-- ---- words of a held fit

-- words up to `from`, zeros up to `to`, and the words behind
module _ (from to : ℕ) (l : List ℕ) (order : from ≤ to) (room : to ≤ length l) where
  front_long : length (take from l) ≡ from
  front_long = length-take-le from l (omega arith)

  struck_long : length (struck_out from to l) ≡ length l
  struck_long =
      let zeros = length-replicate {A = ℕ} (to - from) 0 in
      length-append (take from l ++ replicate (to - from) 0) (drop to l)
      ∙ ap₂ (λ (i k : ℕ). i + k) (length-append (take from l) (replicate (to - from) 0)) (length-drop to l)
      ∙ omega (arith, front_long, zeros)

  struck_front : take from (struck_out from to l) ≡ take from l
  struck_front =
      ap (take from) (append_assoc (take from l) (replicate (to - from) 0) (drop to l))
      ∙ take_at (take from l) (replicate (to - from) 0 ++ drop to l) from front_long

module _ (t : Fit) (a : List Float) (l : List ℕ) (j : ℕ) (test : is_held t a ≡ true) (few : j ≤ t.extra.entries) (room : t.extra.words ≤ length l) where
  abbrev was : Words
  was = words t a l

  passed : check_back was j ≡ None
  passed =
      check_held_lem was j test
      ∙ ap₂ (λ (p q : Bool). when p (refuse 16 0 0) then when q (refuse 12 0 0)) (le-ltb t.extra.entries j few) (le-ltb (length l) t.extra.words room)

  -- the replies of a history that the words hold, the last j struck
  history_left : (b : Book) → Held was b → replies_left j was ≡ Some (struck j b).replies
  history_left b h =
      let k = h.stands in
      ap (λ (x : Setup). entries_kept x (t.extra.entries - j) (log_in was)) k.setup
      ∙ ap₂ (λ (i : ℕ) (ws : List ℕ). entries_kept b.setup (i - j) ws) k.entries k.log
      ∙ log_kept b.setup b.replies k.due j (omega (arith, k.entries))

  -- the part for any words gives the part for a history
  module _ (w : Words) (o : H.Answer) (sized : lengths w ≡ lengths was) (said : o ≡ stay_answer (replies_left j was))
      (h : TakesReplies (replies_left j was) was w) where
    taken_history : (b : Book) → Held was b → Held w (struck j b)
    taken_history b k =
        let left = subst (λ (q : Option (List M.Reply)). TakesReplies q was w) (history_left b k) h in
        record { accepted = k.accepted; stands = subst (λ (x : Setup). Stands w (book x (struck j b).replies)) k.stands.setup left.stands }

    holds_left : (g : History) → Holds was g → Holds w (left_over was g j)
    holds_left History.empty k = absurd (false≢true (sym k ∙ test))
    holds_left (History.fit b) k = taken_history b k

    says_done : (g : History) → Holds was g → o ≡ (call_row (lengths was) g (Call.take_back j)).answer
    says_done History.empty k = absurd (false≢true (sym k ∙ test))
    says_done (History.fit b) k = said ∙ ap stay_answer (history_left b k)

    held_back : TakenBack j was w o
    held_back = record {
      did = record {
        sized = sized;
        holds = λ g k. subst (λ (c : Check). Holds w (left_by c g (left_over was g j))) (sym (check_same was j g k ∙ passed)) (holds_left g k);
        said = λ g k.
            says_done g k
            ∙ ap (λ (c : Check). refused_by c (call_row (lengths was) g (Call.take_back j)).answer) (sym (check_same was j g k ∙ passed));
      };
      always = rw (passed, test) said;
      back = subst (λ (c : Check). TakesBack j c was w) (sym passed) (rw test h);
    }

  -- the entries that are to stay are there
  module _ (f : Fit) (b : List Float) (h : Built (setup_of was) (log_in was) (t.extra.entries - j) (length l) a f b)
      (all : f.extra.entries ≡ t.extra.entries - j)
      (r : ReplayedTo (setup_of was) (log_in was) (length l) f b) where
    fewer_words : f.extra.words ≤ t.extra.words
    fewer_words = omega (arith, h.words, length-take-le t.extra.words l room)

    abbrev now_log : List ℕ
    now_log = struck_out f.extra.words t.extra.words l

    now_long : length now_log ≡ length l
    now_long = struck_long f.extra.words t.extra.words l fewer_words room

    shortened : Shortened was (words f b now_log)
    shortened = record { words = fewer_words; log = refl }

    -- the log's front spells the replies
    log_left : take f.extra.words now_log ≡ log_words r.replies
    log_left =
        struck_front f.extra.words t.extra.words l fewer_words room
        ∙ sym (take-take f.extra.words t.extra.words l fewer_words)
        ∙ ap (take f.extra.words) (sym r.spelled)
        ∙ take_at (log_words r.replies) (drop f.extra.words (log_in was)) f.extra.words (sym r.words)

    taken : Taken r.replies was (words f b now_log)
    taken = record {
      stands = record {
        due = r.due;
        test = is_held_lem f b r.ready h.mark;
        setup = h.setup;
        is = r.is;
        settled = h.settled;
        entries = r.entries;
        words = r.words;
        room = omega (arith, fewer_words, now_long);
        log = log_left;
      };
      log = shortened;
    }

    taken_back : TakenBack j was (words f b now_log) H.Answer.done
    taken_back =
        let kept = sym (all_kept (t.extra.entries - j) (omega (arith, length-take-le t.extra.words l room)) r all) in
        held_back (words f b now_log) H.Answer.done (ap₂ (λ (x y : ℕ). record { area = x; log = y }) h.long now_long) (ap stay_answer kept)
        (subst (λ (q : Option (List M.Reply)). TakesReplies q was (words f b now_log)) kept taken)

  -- one of them is refused
  module _ (c : Q.Refusal) (b : List Float) (h : Cut (setup_of was) (log_in was) (t.extra.entries - j) (length a) c b) where
    back_zeroed : TakenBack j was (words t b l) (H.Answer.refused (refusal_of c))
    back_zeroed =
        held_back (words t b l) (H.Answer.refused (refusal_of c))
        (ap (λ (x : ℕ). record { area = x; log = length l }) (ap length h.area ∙ length-replicate (length a) zero64))
        (ap (λ (q : Q.Refusal). H.Answer.refused (refusal_of q)) h.which ∙ ap stay_answer (sym h.is))
        (subst (λ (q : Option (List M.Reply)). TakesReplies q was (words t b l)) (sym h.is) (ap (λ (x : List Float). words t x l) h.area))

  -- ---- by what is built

  pub built_back : (q : Result Fit Q.Refusal) (b : List Float) (m : List ℕ)
      → Stays (setup_of was) (log_in was) (t.extra.entries - j) (length l) a q b → Shortens q t.extra.words l m
      → TakenBack j was (words (next t q) b m) (kept q)
  built_back (Ok f) b m h z = subst (λ (k : List ℕ). TakenBack j was (words f b k) H.Answer.done) (sym z) (taken_back f b h.0 h.1 h.2)
  built_back (Err c) b m h z = subst (λ (k : List ℕ). TakenBack j was (words t b k) (H.Answer.refused (refusal_of c))) (sym z) (back_zeroed c b h)
