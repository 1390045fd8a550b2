-- Laws of the record: what a held fit has in its area, how long its record is, and the parts that are lent. Assumes nothing.
use Prim.Native.Nat.{ℕ, ◌+◌, ◌-◌, ◌*◌, ◌≤◌, ◌<◌}
use native.Mathlib.Omega.{arith}
use mathlib.Core.Path.{◌≡◌, sym, ap, ◌∙◌}
use mathlib.Core.Bool.{Bool, true, false}
use mathlib.Core.List.{List, ◌++◌}
use lib.ListN.{length, take, drop, length-append}
use lib.Seq.{length-take-le}
use lib.Ieee.{Float}
use Rattle.definition.specs.Problem as P
use Rattle.definition.specs.Record.{trailer, bytes}
use Rattle.definition.proofs.Bytes.{bytes-length}
use Rattle.area.specs.Area.{view, first_pair, vector_lower, vector_upper, vector_x0}
use Rattle.area.proofs.Laws.{length-view, part_lent}
use Rattle.area.proofs.Sizes.{within}
use Rattle.std.specs.Prelude.{Option, None, Some}
use Rattle.problem.specs.Setups.{setup_in}
use Rattle.fit.specs.declared.Fit.{Fit}
use Rattle.question.specs.Reports.{written}
use Rattle.record.specs.Records.{Savable, setup_size, saved_words, saved_record, overwritten}
use Rattle.record.proofs.Saving.{saved_size}
use Rattle.held.specs.Test.{is_held}
use Rattle.held.proofs.Test.{ReadyFacts, ready_facts, held_ready}
use Rattle.held.specs.Words.{words}
use Rattle.lookup.specs.Reading.{record_in, Placed}

-- what the test gives
pub facts : (t : Fit) (a : List Float) → is_held t a ≡ true → ReadyFacts t (length a)
facts t a h = ready_facts t (length a) (held_ready t a h)

pub vector_long : (t : Fit) (a : List Float) (q : ℕ) → q < first_pair → is_held t a ≡ true → length (view a t.shape.n q) ≡ t.shape.n
vector_long t a q k h =
    let f = facts t a h in
    length-view a t.shape.n q (omega (arith, within t.shape.n t.shape.m q (omega arith), f.area))

places_few : (k : Option ℕ) (m : ℕ) → P.or_else k 10 ≡ m → m ≤ P.most_pairs → P.or_else k 0 ≤ 255
places_few None m e h = omega arith
places_few (Some j) m e h = omega arith

pub held_placed : (t : Fit) (a : List Float) → is_held t a ≡ true → Placed t a
held_placed t a h =
    let f = facts t a h in
    let sound = f.ready.sound in
    record {
      room = omega (arith, within t.shape.n t.shape.m vector_x0 (omega arith), f.area);
      savable = record {
        most = omega (arith, vector_long t a vector_x0 (omega arith) h, f.ready.n);
        pairs = places_few t.options.maxcor t.shape.m f.places sound.few;
        lower = λ b. vector_long t a vector_lower (omega arith) h ∙ sym (vector_long t a vector_x0 (omega arith) h);
        upper = λ b. vector_long t a vector_upper (omega arith) h ∙ sym (vector_long t a vector_x0 (omega arith) h);
      };
    }

-- the words of a setup are few
setup_size_lem : {k : ℕ} (b : Bool) (n : ℕ) → k ≡ setup_size b n → n ≤ P.most_coordinates → k ≤ 7 + 3 * P.most_coordinates
setup_size_lem true n e h = omega arith
setup_size_lem false n e h = omega arith

pub setup_few : {k : ℕ} (t : Fit) → k ≡ setup_size t.options.bounded t.shape.n → t.shape.n ≤ P.most_coordinates → k ≤ 7 + 3 * P.most_coordinates
setup_few t e h = setup_size_lem t.options.bounded t.shape.n e h

-- eight bytes a word: setup, log and trailer
pub record_long : (t : Fit) (a : List Float) (l : List ℕ) → is_held t a ≡ true → t.extra.words ≤ length l
    → length (record_in (words t a l)) ≡ 8 * (setup_size t.options.bounded t.shape.n + t.extra.words + 4)
record_long t a l h r =
    let n = t.shape.n in
    let log = take t.extra.words l in
    let ws = saved_words (setup_in t.options (view a n vector_x0) (view a n vector_lower) (view a n vector_upper)) log in
    let size : length ws ≡ setup_size t.options.bounded (length (view a n vector_x0)) + length log
    = saved_size t.options (view a n vector_x0) (view a n vector_lower) (view a n vector_upper) (held_placed t a h).savable log in
    let start : setup_size t.options.bounded (length (view a n vector_x0)) ≡ setup_size t.options.bounded n
    = ap (setup_size t.options.bounded) (vector_long t a vector_x0 (omega arith) h) in
    bytes-length (ws ++ trailer ws)
    ∙ ap (λ (k : ℕ). 8 * k) (length-append ws (trailer ws) ∙ omega (arith, size, start, length-take-le t.extra.words l r))

-- ---- the parts lent

-- the n words from vector q on, as they are lent
abbrev lent : ℕ → List Float → ℕ → List Float
lent n a q = take (q * n + n - q * n) (drop (q * n) a)

module _ (t : Fit) (a : List Float) (l : List ℕ) where
  pub record_lent : {size : ℕ} → Placed t a → t.extra.words ≤ length l → 8 * (setup_size t.options.bounded t.shape.n + t.extra.words + 4) ≤ size
      → Savable t.options (lent t.shape.n a vector_x0) (lent t.shape.n a vector_lower) (lent t.shape.n a vector_upper)
      × (8 * (setup_size t.options.bounded (length (lent t.shape.n a vector_x0)) + length (take t.extra.words l) + 4) ≤ size)
  record_lent h r f =
      let n = t.shape.n in
      let parts : Savable t.options (lent n a vector_x0) (lent n a vector_lower) (lent n a vector_upper)
      = rw (part_lent a vector_x0 n, part_lent a vector_lower n, part_lent a vector_upper n) h.savable in
      let long : length (lent n a vector_x0) ≡ n = ap length (part_lent a vector_x0 n) ∙ length-view a n vector_x0 (omega (arith, h.room)) in
      let log : length (take t.extra.words l) ≡ t.extra.words = length-take-le t.extra.words l r in
      (parts, rw (long, log) f)

  abbrev lent_setup : P.Setup
  lent_setup =
      setup_in t.options (lent t.shape.n a vector_x0) (lent t.shape.n a vector_lower) (lent t.shape.n a vector_upper)

  pub record_put : (out out' : List ℕ) → out' ≡ overwritten (bytes (saved_record lent_setup (take t.extra.words l))) out
      → out' ≡ written (record_in (words t a l)) out
  record_put out out' e =
      let n = t.shape.n in
      let is : bytes (saved_record lent_setup (take t.extra.words l)) ≡ record_in (words t a l)
      = rw (part_lent a vector_x0 n, part_lent a vector_lower n, part_lent a vector_upper n) in
      e ∙ ap (λ (bs : List ℕ). written bs out) is
