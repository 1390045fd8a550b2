-- Every list of calls: the fit in the history is sound, a refused call leaves the history, and a fit saved is restored. Assumes nothing.
use Prim.Native.Nat.{ℕ, zero, suc, ◌+◌, ◌≤◌}
use native.Mathlib.Omega.{arith}
use mathlib.Core.Path.{◌≡◌, refl, sym, ap, ◌∙◌, subst}
use mathlib.Core.Bool.{Bool, true, false, false≢true, cond}
use mathlib.Core.List.{List, [], ◌∷◌, ◌++◌}
use Rattle.std.specs.Prelude.{None, Some}
use lib.Dec.{ltb}
use lib.ListN.{length, drop}
use borrow.Author.Tests.{ltb-false}
use Rattle.definition.specs.Problem.{Setup, Refusal, Check, refuse, when, ◌then◌, validate, area_needed}
use Rattle.definition.specs.Machine.{Reply, check_due}
use Rattle.definition.specs.Log.{entry_words, log_words}
use Rattle.definition.specs.Book.{Book, opened_book, with_reply, struck, run_of, log_of}
use Rattle.definition.specs.Record.{Lengths, Reading, check_area, read_record, record_bytes}
use Rattle.definition.specs.Replies.{Due}
use Rattle.definition.specs.History.{Call, Answer, History, check_reply, call_row, left_by, refused_by, restored}
use Rattle.definition.specs.History.{restored_answer, history_step, history_answer, history_after}
use Rattle.definition.specs.Values.{Each, SetupFloats, ReplyWords, Brings}
use Rattle.definition.specs.Sound.{Sound, at_entry, refused_at_entry}
use Rattle.definition.proofs.Lists.{each_drop, each_of}
use Rattle.definition.proofs.Accepted.{both_passed, test_failed}
use Rattle.definition.proofs.Entries.{log_more}
use Rattle.definition.proofs.RoundTrip.{saved_reads_back, accepted_sound, accepted_floats, accepted_words}

-- ---- a read leaves the history

abbrev pub is_read : Call → Bool
is_read (Call.start s) = false
is_read (Call.restore bs) = false
is_read (Call.reply r) = false
is_read (Call.take_back j) = false
is_read (Call.question room) = true
is_read (Call.report room) = true
is_read Call.replies = true
is_read (Call.entry k room) = true
is_read (Call.save room) = true

-- where the check passes a read leaves it, and where it does not every call does
read_left : (z : Lengths) (h : History) (c : Call) → is_read c ≡ true → (call_row z h c).left ≡ h
read_left z h (Call.start s) e = absurd (false≢true e)
read_left z h (Call.restore bs) e = absurd (false≢true e)
read_left z h (Call.reply r) e = absurd (false≢true e)
read_left z h (Call.take_back j) e = absurd (false≢true e)
read_left z History.empty (Call.question room) e = refl
read_left z (History.fit b) (Call.question room) e = refl
read_left z History.empty (Call.report room) e = refl
read_left z (History.fit b) (Call.report room) e = refl
read_left z History.empty Call.replies e = refl
read_left z (History.fit b) Call.replies e = refl
read_left z History.empty (Call.entry k room) e = refl
read_left z (History.fit b) (Call.entry k room) e = refl
read_left z History.empty (Call.save room) e = refl
read_left z (History.fit b) (Call.save room) e = refl

left_same : (c : Check) (h left : History) → left ≡ h → left_by c h left ≡ h
left_same None h left e = e
left_same (Some r) h left e = refl

pub read_stays : (z : Lengths) (h : History) (c : Call) → is_read c ≡ true → history_step z h c ≡ h
read_stays z h c e = left_same (call_row z h c).check h (call_row z h c).left (read_left z h c e)

-- ---- what holds of the fit in the history after every list of calls

abbrev Held : (Book → Type 0) → History → Type 0
Held I History.empty = Unit {0}
Held I (History.fit b) = I b

-- I is true of a fit that a call makes, if C is true of the call
record Kept (z : Lengths) (C : Call → Type 0) (I : Book → Type 0) : Type 0 where
  started : (s : Setup) → C (Call.start s) → (validate s then check_area z s) ≡ None → I (opened_book s)
  restored : (bs : List ℕ) (b : Book) → C (Call.restore bs) → read_record z bs ≡ Reading.accepted b → I b
  replied : (b : Book) (r : Reply) → C (Call.reply r) → I b → check_reply z b r ≡ None → I (with_reply r b)
  struck : (b : Book) (j : ℕ) → I b → I (struck j b)

module _ (z : Lengths) (C : Call → Type 0) (I : Book → Type 0) (k : Kept z C I) where
  held_by : (c : Check) (h left : History) → Held I h → (c ≡ None → Held I left) → Held I (left_by c h left)
  held_by None h left b f = f refl
  held_by (Some r) h left b f = b

  held_restored : (h : History) (r : Reading) → Held I h → ((b : Book) → r ≡ Reading.accepted b → I b) → Held I (restored h r)
  held_restored h (Reading.accepted b) a f = f b refl
  held_restored h (Reading.refused c) a f = a
  held_restored h (Reading.refused_at_entry c) a f = tt

  held_read : (h : History) (c : Call) → is_read c ≡ true → Held I h → Held I (history_step z h c)
  held_read h c e b = subst (Held I) (sym (read_stays z h c e)) b

  held_step : (h : History) (c : Call) → C c → Held I h → Held I (history_step z h c)
  held_step h (Call.start s) a b = held_by (validate s then check_area z s) h (History.fit (opened_book s)) b (k.started s a)
  held_step h (Call.restore bs) a b = held_restored h (read_record z bs) b (λ d. k.restored bs d a)
  held_step History.empty (Call.reply r) a b = tt
  held_step (History.fit d) (Call.reply r) a b = held_by (check_reply z d r) (History.fit d) (History.fit (with_reply r d)) b (k.replied d r a b)
  held_step History.empty (Call.take_back j) a b = held_by (call_row z History.empty (Call.take_back j)).check History.empty History.empty tt (λ e. tt)
  held_step (History.fit d) (Call.take_back j) a b =
      held_by (call_row z (History.fit d) (Call.take_back j)).check (History.fit d) (History.fit (struck j d)) b (λ e. k.struck d j b)
  held_step h (Call.question room) a b = held_read h (Call.question room) refl b
  held_step h (Call.report room) a b = held_read h (Call.report room) refl b
  held_step h Call.replies a b = held_read h Call.replies refl b
  held_step h (Call.entry i room) a b = held_read h (Call.entry i room) refl b
  held_step h (Call.save room) a b = held_read h (Call.save room) refl b

  held_after : (h : History) (cs : List Call) → Each C cs → Held I h → Held I (history_after z h cs)
  unfolding history_after
  held_after h [] a b = b
  held_after h (c ∷ cs) a b = held_after (history_step z h c) cs a.1 (held_step h c a.0 b)

-- ---- it is sound

pub due_struck : (s : Setup) (j : ℕ) (rs : List Reply) → Due s rs → Due s (drop j rs)
due_struck s zero rs d = d
due_struck s (suc j) [] d = d
due_struck s (suc j) (r ∷ rs) d = due_struck s j rs d.1

pub log_struck : (j : ℕ) (rs : List Reply) → length (log_words (drop j rs)) ≤ length (log_words rs)
log_struck zero rs = omega arith
log_struck (suc j) [] = omega arith
log_struck (suc j) (r ∷ rs) = omega (arith, log_struck j rs, log_more r rs)

pub reply_fits : (z : Lengths) (b : Book) (r : Reply) → check_reply z b r ≡ None
    → (check_due (run_of b) r ≡ None) × (length (log_of (with_reply r b)) ≤ z.log)
reply_fits z b r e =
    let full = ltb z.log (length (log_of b) + length (entry_words r)) in
    let p = both_passed (check_due (run_of b) r) (when full (refuse 12 0 0)) e in
    let fits = ltb-false z.log _ (test_failed full _ p.1) in
    (p.0, omega (arith, fits, log_more r b.replies))

sound_kept : (z : Lengths) → Kept z (λ c. Unit {0}) (Sound z)
unfolding log_words
sound_kept z = record {
  started = λ s a e.
      let p = both_passed (validate s) (check_area z s) e in
      record { accepted = p.0; due = tt; area = ltb-false z.area (area_needed s) (test_failed (ltb z.area (area_needed s)) _ p.1); log = omega arith };
  restored = λ bs b a e. accepted_sound z bs b e;
  replied = λ b r a h e.
      let p = reply_fits z b r e in
      record { accepted = h.accepted; due = (p.0, h.due); area = h.area; log = p.1 };
  struck = λ b j h. record {
    accepted = h.accepted;
    due = due_struck b.setup j b.replies h.due;
    area = h.area;
    log = omega (arith, log_struck j b.replies, h.log);
  };
}

pub history_sound : (z : Lengths) (cs : List Call) (b : Book) → history_after z History.empty cs ≡ History.fit b → Sound z b
history_sound z cs b e =
    subst (Held (Sound z)) e (held_after z (λ c. Unit {0}) (Sound z) (sound_kept z) History.empty cs (each_of _ cs Call.replies (λ i h. tt)) tt)

-- calls that bring floats and words leave a fit of floats and words

abbrev Valued : Book → Type 0
Valued b = SetupFloats b.setup × ReplyWords b.replies

values_kept : (z : Lengths) → Kept z Brings Valued
values_kept z = record {
  started = λ s a e. (a, tt);
  restored = λ bs b a e. (accepted_floats z bs b e, accepted_words z bs b e a);
  replied = λ b r a h e. (h.0, (a, h.1));
  struck = λ b j h. (h.0, each_drop _ j b.replies h.1);
}

pub history_values : (z : Lengths) (cs : List Call) (b : Book) → Each Brings cs → history_after z History.empty cs ≡ History.fit b
    → SetupFloats b.setup × ReplyWords b.replies
history_values z cs b a e = subst (Held Valued) e (held_after z Brings Valued (values_kept z) History.empty cs a tt)

-- ---- a refused call leaves the history as it was, but for a restore that is refused at an entry

by_refused : (c : Check) (h left : History) (r : Refusal) → refused_by c Answer.done ≡ Answer.refused r → left_by c h left ≡ h
by_refused None h left r e = cc
by_refused (Some b) h left r e = refl

pub refused_leaves : (z : Lengths) (h : History) (c : Call) (r : Refusal) → history_answer z h c ≡ Answer.refused r
    → history_step z h c ≡ cond (refused_at_entry z c) History.empty h
refused_leaves z h (Call.start s) r e = by_refused (validate s then check_area z s) h (History.fit (opened_book s)) r e
refused_leaves z h (Call.restore bs) r e = go (read_record z bs) e
  where
    go : (d : Reading) → restored_answer d ≡ Answer.refused r → restored h d ≡ cond (at_entry d) History.empty h
    go (Reading.accepted b) e = cc
    go (Reading.refused c) e = refl
    go (Reading.refused_at_entry c) e = refl
refused_leaves z History.empty (Call.reply q) r e = refl
refused_leaves z (History.fit b) (Call.reply q) r e = by_refused (check_reply z b q) (History.fit b) (History.fit (with_reply q b)) r e
refused_leaves z History.empty (Call.take_back j) r e = left_same (call_row z History.empty (Call.take_back j)).check History.empty History.empty refl
refused_leaves z (History.fit b) (Call.take_back j) r e =
    by_refused (call_row z (History.fit b) (Call.take_back j)).check (History.fit b) (History.fit (struck j b)) r e
refused_leaves z h (Call.question room) r e = read_stays z h (Call.question room) refl
refused_leaves z h (Call.report room) r e = read_stays z h (Call.report room) refl
refused_leaves z h Call.replies r e = read_stays z h Call.replies refl
refused_leaves z h (Call.entry k room) r e = read_stays z h (Call.entry k room) refl
refused_leaves z h (Call.save room) r e = read_stays z h (Call.save room) refl

-- ---- a fit saved and restored

pub after_append : (z : Lengths) (h : History) (cs ds : List Call) → history_after z h (cs ++ ds) ≡ history_after z (history_after z h cs) ds
unfolding history_after
after_append z h [] ds = refl
after_append z h (c ∷ cs) ds = after_append z (history_step z h c) cs ds

save_accepted : (z : Lengths) (b : Book) (room : ℕ) (bs : List ℕ) → history_answer z (History.fit b) (Call.save room) ≡ Answer.saved bs → bs ≡ record_bytes b
save_accepted z b room bs e = go (call_row z (History.fit b) (Call.save room)).check e
  where
    go : (c : Check) → refused_by c (Answer.saved (record_bytes b)) ≡ Answer.saved bs → bs ≡ record_bytes b
    go None e = cc
    go (Some r) e = let z : ◌≡◌ {A = ℕ} 0 1 = cc in absurd (omega arith)

-- what a fit saved after any calls, behind any bytes, is restored to where area and log are long enough, whatever was there
module _ (z : Lengths) (cs : List Call) (b : Book) (room : ℕ) (bs : List ℕ)
    (brings : Each Brings cs) (held : history_after z History.empty cs ≡ History.fit b)
    (saved : history_answer z (History.fit b) (Call.save room) ≡ Answer.saved bs) where
  pub restored_elsewhere : (there : Lengths) (other : History) (ahead : List ℕ) → area_needed b.setup ≤ there.area → length (log_of b) ≤ there.log
      → history_step there other (Call.restore (ahead ++ bs)) ≡ History.fit b
  restored_elsewhere there other ahead area log =
      let h = history_sound z cs b held in
      let v = history_values z cs b brings held in
      let sound : Sound there b = record { accepted = h.accepted; due = h.due; area = area; log = log } in
      ap (λ (x : List ℕ). restored other (read_record there (ahead ++ x))) (save_accepted z b room bs saved)
      ∙ ap (restored other) (saved_reads_back there ahead b sound v.0 v.1)

  -- in its place: so question, report, log and every further answer are the same
  pub saved_restored : history_after z History.empty (cs ++ (Call.save room ∷ Call.restore bs ∷ [])) ≡ history_after z History.empty cs
  unfolding history_after
  saved_restored =
      let h = history_sound z cs b held in
      let there = history_after z History.empty cs in
      after_append z History.empty cs (Call.save room ∷ Call.restore bs ∷ [])
      ∙ restored_elsewhere z (history_step z there (Call.save room)) [] h.area h.log
      ∙ sym held
