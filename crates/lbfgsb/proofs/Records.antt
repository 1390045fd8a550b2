-- A fit saved and read in again, after every list of calls whose arguments are values of their types: the same fit, anywhere; and a record with one word
-- changed is refused. Assumes nothing.
use Prim.Native.Nat.{ℕ, ◌+◌, ◌≤◌, ◌<◌}
use mathlib.Core.Path.{◌≡◌, sym, ap, ◌∙◌, subst}
use mathlib.Core.Bool.{false≢true}
use mathlib.Core.List.{List, ◌++◌}
use mathlib.Core.Logic.{◌≢◌}
use Rattle.std.specs.Prelude.{None, Some}
use lib.ListN.{length, get_or, set}
use Rattle.definition.specs.Problem.{Check, area_needed}
use Rattle.definition.specs.Book.{Book, log_of}
use Rattle.definition.specs.Record.{Lengths, Reading, plain_refusal, read_record, record_words, record_bytes, bytes, word_size}
use Rattle.definition.specs.Sound.{Sound}
use Rattle.definition.specs.History.{Call, Answer, History, call_row, refused_by, restored_answer, history_answer, history_after}
use Rattle.definition.proofs.Histories.{history_sound, history_values}
use Rattle.definition.proofs.RoundTrip.{saved_reads_back, changed_record_refused}
use Rattle.lbfgsb.specs.Words.{Words, lengths, Held, Holds}
use Rattle.lbfgsb.specs.Did.{Restores}
use Rattle.lbfgsb.specs.Chain.{Chain, Allowed, Keeps, Alike, is_refused, numbers_of}
use Rattle.lbfgsb.proofs.Trace.{Called, did, opening, keeps, after}
use Rattle.lbfgsb.proofs.Alike.{alike}
use Rattle.lbfgsb.proofs.Typed.{EachTyped, each_brings}

saved_is : (z : Lengths) (b : Book) (room : ℕ) (bs : List ℕ) → Answer.saved bs ≡ history_answer z (History.fit b) (Call.save room) → bs ≡ record_bytes b
saved_is z b room bs e = go (call_row z (History.fit b) (Call.save room)).check e
  where
    go : (c : Check) → Answer.saved bs ≡ refused_by c (Answer.saved (record_bytes b)) → bs ≡ record_bytes b
    go None q = ap numbers_of q
    go (Some r) q = absurd (false≢true (ap is_refused q))

-- what a record is read as is what the words hold after it
record Reads (d : Reading) (x u : Words) (o : Answer) : Type 0 where
  said : o ≡ restored_answer d
  left : Restores d x u

reads : {bs : List ℕ} {x u : Words} {o : Answer} {d : Reading} → Called (Call.restore bs) x u o → read_record (lengths x) bs ≡ d → Reads d x u o
reads {bs} {x} {u} {o} c e =
    let l = opening c in
    subst (λ (d : Reading). Reads d x u o) e (record { said = l.always; left = l.restores })

module _ {w w' : Words} {cs : List Call} {os : List Answer} {b : Book}
    (allowed : Allowed w cs os) (ch : Chain Called w cs os w') (typed : EachTyped ch) (fit : history_after (lengths w) History.empty cs ≡ History.fit b) where
  sound : Sound (lengths w) b
  sound = history_sound (lengths w) cs b fit

  held : Held w' b
  held = subst (Holds w') fit (after allowed ch).holds

  -- room for the fit in other words
  there : (x : Words) → area_needed b.setup ≤ length x.area → length (log_of b) ≤ length x.log → Sound (lengths x) b
  there x area log = record { accepted = sound.accepted; due = sound.due; area = area; log = log }

  module _ {v x u : Words} {room : ℕ} {bs : List ℕ} {o : Answer}
      (saved : Called (Call.save room) w' v (Answer.saved bs)) (ahead : List ℕ) (restored : Called (Call.restore (ahead ++ bs)) x u o)
      (area : area_needed b.setup ≤ length x.area) (log : length (log_of b) ≤ length x.log) where
    read : Reads (Reading.accepted b) x u o
    read =
        let values = history_values (lengths w) cs b (each_brings ch typed) fit in
        let same = saved_is (lengths w') b room bs ((did saved).said (History.fit b) held) in
        let back = saved_reads_back (lengths x) ahead b (there x area log) values.0 values.1 in
        reads restored (ap (λ (k : List ℕ). read_record (lengths x) (ahead ++ k)) same ∙ back)

    -- what a saving wrote is read in at any words that are long enough, and they then keep the same fit: question, report, log and all
    pub saved_restored : (o ≡ Answer.done) × Keeps Called u b
    saved_restored = (read.said, keeps read.left.held (subst (λ (z : Lengths). Sound z b) (sym (did restored).sized) (there x area log)))

    -- where they are equally long, they agree with those saved from
    pub saved_alike : lengths x ≡ lengths w' → Alike Called w' u
    saved_alike e = alike w' u (History.fit b) held read.left.held tt (sym ((did restored).sized ∙ e))

  -- the record with word i before the trailer changed to k is refused, and changes nothing
  pub changed_word_refused :
      {x u : Words} {o : Answer} (ahead : List ℕ) (i k : ℕ) → i + 4 < length (record_words b) → k < word_size → k ≢ get_or (record_words b) i 0
      → Called (Call.restore (ahead ++ bytes (set (record_words b) i k))) x u o → (o ≡ Answer.refused (plain_refusal 18)) × (u ≡ x)
  changed_word_refused {x} ahead i k at small other c =
      let values = history_values (lengths w) cs b (each_brings ch typed) fit in
      let r = reads c (changed_record_refused (lengths x) ahead b i k sound.accepted sound.due values.0 values.1 at small other) in
      (r.said, r.left)
