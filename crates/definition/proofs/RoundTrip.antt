-- A record reads back to the setup and replies that were saved, behind any bytes; what is accepted is sound, and saved again it is the
-- same record; and a record with one word before its trailer changed is refused. Assumes nothing.
use Prim.Native.Nat.{ℕ, ◌+◌, ◌≤◌, ◌<◌}
use native.Mathlib.Omega.{arith}
use mathlib.Core.Path.{◌≡◌, refl, sym, ap, ap₂, ◌∙◌, subst}
use mathlib.Core.Logic.{◌≢◌}
use mathlib.Core.Bool.{false, not}
use mathlib.Core.List.{List, [], ◌∷◌, ◌++◌, append-nil}
use Rattle.std.specs.Prelude.{None, Some}
use lib.Dec.{ltb}
use lib.ListN.{length, get_or, set, drop, length-append, take-append-drop, get_or-append}
use lib.Seq.{drop_at, set-append_left}
use borrow.Author.Tests.{eq-eqb, ltb-false, le-ltb, leb-false, lt-leb, not-false}
use Rattle.definition.specs.Problem.{Setup, Check, refuse, when, ◌then◌, validate, area_needed}
use Rattle.definition.specs.Machine.{Reply}
use Rattle.definition.specs.Log.{entry_words, log_words, Entries, entries_of}
use Rattle.definition.specs.Book.{Book, book, log_of}
use Rattle.definition.specs.Record.{Lengths, Reading, word_size, setup_words, setup_length, setup_in, spare_bits, sums, trailer, record_words, record_bytes}
use Rattle.definition.specs.Record.{bytes, plain_refusal, reading_of, check_area, same_sums, malformed, check_words, unless_refused, read_words, read_record}
use Rattle.definition.specs.Replies.{Accepted, Due}
use Rattle.definition.specs.Values.{Bytes, Words, SetupFloats, ReplyWords}
use Rattle.definition.specs.Sound.{Sound}
use Rattle.definition.proofs.Tests.{both_false}
use Rattle.definition.proofs.Lists.{each_join, each_split}
use Rattle.definition.proofs.Frames.{trailing, read_framed, Framed, accepted_framed}
use Rattle.definition.proofs.OneWord.{trailer_words, sums_agree_lem, one_changed_word}
use Rattle.definition.proofs.Accepted.{both_passed, test_failed}
use Rattle.definition.proofs.Entries.{Read, log_back, log_sound}
use Rattle.definition.proofs.SetupWords.{setup_back, shape_small, length_read, setup_words_fit}
use Rattle.definition.proofs.Lengths.{record_length, record_fits}
use Rattle.definition.proofs.SetupRead.{setup_read, words_of_setup}

-- ---- the log's words are those of the replies

log_words_lem : (rs : List Reply) → ReplyWords rs → Words (log_words rs)
unfolding log_words
log_words_lem [] h = tt
log_words_lem (r ∷ rs) h = each_join _ (log_words rs) (entry_words r) (log_words_lem rs h.1) h.0

reply_words : (rs : List Reply) → Words (log_words rs) → ReplyWords rs
unfolding log_words
reply_words [] h = tt
reply_words (r ∷ rs) h = let p = each_split _ (log_words rs) (entry_words r) h in (p.1, reply_words rs p.0)

-- ---- from the record to the fit

module _ (z : Lengths) (b : Book) (ok : Sound z b) (f : SetupFloats b.setup) where
  abbrev saved : List ℕ
  saved = setup_words b.setup ++ log_of b

  saved_checked : check_words z saved (sums saved).plain (sums saved).running ≡ None
  unfolding check_words setup_words
  saved_checked =
      let a = ok.accepted in
      let same = setup_back b.setup (log_of b) a f in
      let long : ltb (length saved) (setup_length (get_or saved 0 0)) ≡ false
      = le-ltb (length saved) (setup_length (get_or saved 0 0)) (omega (arith, length_read b.setup a, length-append (setup_words b.setup) (log_of b))) in
      let area : ltb z.area (area_needed b.setup) ≡ false = le-ltb z.area (area_needed b.setup) ok.area in
      let spare : spare_bits (get_or saved 0 0) ≡ false = lt-leb _ (get_or saved 0 0) (omega (arith, shape_small b.setup a)) in
      simp (eq-eqb (sums saved).plain (sums saved).plain refl, eq-eqb (sums saved).running (sums saved).running refl, long, spare, same, ok.accepted, area)

  behind_setup : drop (setup_length (get_or saved 0 0)) saved ≡ log_of b
  unfolding setup_words
  behind_setup = drop_at (setup_words b.setup) (log_of b) (setup_length (get_or saved 0 0)) (sym (length_read b.setup ok.accepted))

  saved_read : read_words z saved (sums saved).plain (sums saved).running ≡ Reading.accepted b
  unfolding read_words
  saved_read =
      rw (saved_checked, behind_setup, setup_back b.setup (log_of b) ok.accepted f)
      (ap (reading_of b.setup) (log_back b.setup z.log b.replies ok.due ok.log))

fit_words : (b : Book) → Accepted b.setup → SetupFloats b.setup → ReplyWords b.replies → Words (setup_words b.setup ++ log_of b)
fit_words b a f w = each_join _ (setup_words b.setup) (log_of b) (setup_words_fit b.setup a f) (log_words_lem b.replies w)

-- a record of a sound fit, behind any bytes
pub saved_reads_back : (z : Lengths) (ahead : List ℕ) (b : Book)
    → Sound z b → SetupFloats b.setup → ReplyWords b.replies → read_record z (ahead ++ record_bytes b) ≡ Reading.accepted b
unfolding record_bytes record_words
saved_reads_back z ahead b ok f w =
    let size = record_fits b ok.accepted ok.due in
    let ws = setup_words b.setup ++ log_of b in
    read_framed z ahead ws (sums ws).plain (sums ws).running (fit_words b ok.accepted f w) (trailer_words ws (omega (arith, record_length b, size)))
    ∙ saved_read z b ok f

-- exactly one word before the trailer changed, to any other word
pub changed_record_refused : (z : Lengths) (ahead : List ℕ) (b : Book) (i w : ℕ)
    → Accepted b.setup → Due b.setup b.replies → SetupFloats b.setup → ReplyWords b.replies
    → i + 4 < length (record_words b) → w < word_size → w ≢ get_or (record_words b) i 0
    → read_record z (ahead ++ bytes (set (record_words b) i w)) ≡ Reading.refused (plain_refusal 18)
unfolding record_words
changed_record_refused z ahead b i w a d f r at small other =
    let size = record_fits b a d in
    let ws = setup_words b.setup ++ log_of b in
    let here : i < length ws = omega (arith, record_length b, at) in
    rw (set-append_left ws (trailer ws) i w here)
    (one_changed_word z ahead ws i w (fit_words b a f r) (omega (arith, record_length b, size)) here small
    (λ e. other (e ∙ sym (get_or-append ws (trailer ws) 0 i here))))

-- ---- from what is accepted to the record

record Accepting (z : Lengths) (ws : List ℕ) (p q : ℕ) (b : Book) : Type 0 where
  plain : (sums ws).plain ≡ p
  running : (sums ws).running ≡ q
  long : setup_length (get_or ws 0 0) ≤ length ws
  small : get_or ws 0 0 < 262144
  accepted : Accepted (setup_in ws)
  area : area_needed (setup_in ws) ≤ z.area
  setup : setup_in ws ≡ b.setup
  entries : entries_of (setup_in ws) z.log (drop (setup_length (get_or ws 0 0)) ws) ≡ Entries.kept b.replies

unless_accepted : (c : Check) (r : Reading) (b : Book) → unless_refused c r ≡ Reading.accepted b → (c ≡ None) × (r ≡ Reading.accepted b)
unless_accepted None r b e = (refl, e)
unless_accepted (Some c) r b e = let z : ◌≡◌ {A = ℕ} 0 1 = cc in absurd (omega arith)

kept_accepted : (t : Setup) (e : Entries) (b : Book) → reading_of t e ≡ Reading.accepted b → (t ≡ b.setup) × (e ≡ Entries.kept b.replies)
kept_accepted t (Entries.kept qs) b h = (cc, cc)
kept_accepted t (Entries.refused_at c) b h = let z : ◌≡◌ {A = ℕ} 0 1 = cc in absurd (omega arith)
kept_accepted t (Entries.going ws qs m) b h = let z : ◌≡◌ {A = ℕ} 0 1 = cc in absurd (omega arith)

words_accepting : (z : Lengths) (ws : List ℕ) (p q : ℕ) (b : Book) → read_words z ws p q ≡ Reading.accepted b → Accepting z ws p q b
unfolding read_words check_words
words_accepting z ws p q b e =
    let w = get_or ws 0 0 in
    let t = setup_in ws in
    let entries = entries_of t z.log (drop (setup_length w) ws) in
    let a = unless_accepted (check_words z ws p q) (reading_of t entries) b e in
    let k = kept_accepted t entries b a.1 in
    let c = both_passed (when (not (same_sums ws p q)) (refuse 18 0 0)) (when (malformed ws) (refuse 17 0 0) then validate t then check_area z t) a.0 in
    let d = both_passed (when (malformed ws) (refuse 17 0 0)) (validate t then check_area z t) c.1 in
    let f = both_passed (validate t) (check_area z t) d.1 in
    let sum = sums_agree_lem ws p q (not-false (same_sums ws p q) (test_failed (not (same_sums ws p q)) _ c.0)) in
    let form = both_false (ltb (length ws) (setup_length w)) (spare_bits w) (test_failed (malformed ws) _ d.0) in
    record {
      plain = sum.0;
      running = sum.1;
      long = ltb-false (length ws) (setup_length w) form.0;
      small = omega (arith, leb-false _ w form.1);
      accepted = f.0;
      area = ltb-false z.area (area_needed t) (test_failed (ltb z.area (area_needed t)) _ f.1);
      setup = k.0;
      entries = k.1;
    }

module _ (z : Lengths) (bs : List ℕ) (b : Book) (e : read_record z bs ≡ Reading.accepted b) where
  found : Framed z bs b
  found = accepted_framed z bs b e

  reading : Accepting z found.ws found.p found.q b
  reading = words_accepting z found.ws found.p found.q b found.read

  log : Read (setup_in found.ws) z.log (drop (setup_length (get_or found.ws 0 0)) found.ws) [] b.replies
  log = log_sound (setup_in found.ws) z.log (drop (setup_length (get_or found.ws 0 0)) found.ws) b.replies reading.entries

  pub accepted_sound : Sound z b
  accepted_sound =
      subst (λ (t : Setup). Sound z (book t b.replies)) reading.setup
      (record { accepted = reading.accepted; due = log.due; area = reading.area; log = log.fits })

  pub accepted_floats : SetupFloats b.setup
  accepted_floats = subst SetupFloats reading.setup (setup_read found.ws)

  -- the words before the trailer are those of the setup and of the log
  words_are : Words found.ws → found.ws ≡ setup_words b.setup ++ log_of b
  words_are h =
      let k = reading in
      let ws = found.ws in
      let setup = words_of_setup ws h k.long k.small k.accepted in
      sym (take-append-drop (setup_length (get_or ws 0 0)) ws)
      ∙ ap₂ ◌++◌ (sym setup ∙ ap setup_words k.setup) (sym log.spelled ∙ append-nil (log_of b))

  pub accepted_words : Bytes bs → ReplyWords b.replies
  accepted_words h =
      let w = found.words h in
      reply_words b.replies (each_split _ (setup_words b.setup) (log_of b) (subst Words (words_are w) w)).1

  -- saved again it is the record that was read
  pub record_resaved : Bytes bs → (ahead : List ℕ) × (bs ≡ ahead ++ record_bytes b)
  unfolding record_bytes record_words
  record_resaved h =
      let k = reading in
      let stood = found.stands h in
      let same = words_are (found.words h) in
      let trail : trailing found.p found.q (length found.ws) ≡ trailer found.ws
      = ap₂ (λ (p q : ℕ). trailing p q (length found.ws)) (sym k.plain) (sym k.running) in
      (stood.0, stood.1 ∙ ap (λ (t : List ℕ). stood.0 ++ bytes (found.ws ++ t)) trail ∙ ap (λ (ws : List ℕ). stood.0 ++ bytes (ws ++ trailer ws)) same)
