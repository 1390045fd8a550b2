-- Laws of writing: the setup's words by number, words written one behind the other with their sums, and the trailer. Assumes nothing.
use Rattle.std.proofs.Common.{◌≡◌, ℕ, zero, suc, ◌+◌, ◌-◌, ◌*◌, ◌<◌, ◌≤◌, Bool, true, false, cond, List, [], ◌∷◌, ◌++◌, map, length, get_or, take, drop, sym}
use Rattle.std.proofs.Common.{refl, ap, ◌∙◌, ap₂, append_assoc, append-nil, add-one, arith, length-append, length-take-le, take-suc}
use Rattle.std.specs.Prelude.{Option, None, Some}
use Rattle.std.proofs.Common.{get_or-append-add}
use lib.ListN.{length-map, get_or-append}
use lib.Ieee.{Float}
use Rattle.definition.specs.Number.{to_word}
use Rattle.definition.specs.Problem.{Setup, or_else, most_pairs, validate}
use Rattle.definition.specs.Machine.{Reply}
use Rattle.definition.specs.Log.{log_words}
use Rattle.definition.specs.Book.{book}
use Rattle.definition.specs.Record as R
use Rattle.definition.specs.Record.{box_flag, bound_words, setup_words, sums_from, sums, bytes_of, bytes, added, trailer, record_words, record_bytes}
use Rattle.definition.proofs.Accepted.{accepted_in_limits}
use Rattle.definition.proofs.Bytes.{bytes-length, bytes-append}
use Rattle.problem.specs.declared.Options.{Options}
use Rattle.problem.specs.Setups as P
use Rattle.record.specs.declared.Sums.{Sums}
use Rattle.record.specs.Records.{sums_of, setup_size, leading_words, Savable, saved_words, saved_record, Summed, trailer_of, overwritten}
use Rattle.record.proofs.Words.{summing_none, sums_one, put, put-append, put-length, bytes_count}

-- ---- the setup's words by number

-- the words of the bounds
abbrev side_words : Options → List Float → List Float → List ℕ
side_words o l u = bound_words (P.bounds_in o.bounded l u)

flag_is : (t : Bool) (l u : List Float) → box_flag (P.bounds_in t l u) ≡ cond t 1 0
flag_is true l u = refl
flag_is false l u = refl

pub setup_spelled : (o : Options) (x0 l u : List Float)
    → setup_words (P.setup_in o x0 l u) ≡ leading_words o (length x0) ++ (map to_word x0 ++ side_words o l u)
unfolding setup_words
setup_spelled o x0 l u = rw (flag_is o.bounded l u)

-- a word of a vector
pub float_word : (v : List Float) (i : ℕ) (d : Float) → i < length v → to_word (get_or v i d) ≡ get_or (map to_word v) i 0
float_word [] i d h = absurd (omega arith)
float_word (x ∷ v) zero d h = refl
float_word (x ∷ v) (suc i) d h = float_word v i d (omega arith)

-- an element of the second list
second_at : (a b : List ℕ) (k n : ℕ) → length a ≡ n → n ≤ k → get_or b (k - n) 0 ≡ get_or (a ++ b) k 0
second_at a b k n e h =
    let whole : length a + (k - n) ≡ k = omega arith in
    sym (get_or-append-add a b (k - n) 0) ∙ ap (λ (i : ℕ). get_or (a ++ b) i 0) whole

module _ (o : Options) (x0 l u : List Float) where
  pub leading_at : (i : ℕ) → i < 7 → get_or (leading_words o (length x0)) i 0 ≡ get_or (setup_words (P.setup_in o x0 l u)) i 0
  leading_at i h =
      sym (ap (λ (ws : List ℕ). get_or ws i 0) (setup_spelled o x0 l u)
      ∙ get_or-append (leading_words o (length x0)) (map to_word x0 ++ side_words o l u) 0 i h)

  pub start_at : (i : ℕ) (d : Float) → 7 ≤ i → i - 7 < length x0 → to_word (get_or x0 (i - 7) d) ≡ get_or (setup_words (P.setup_in o x0 l u)) i 0
  start_at i d h k =
      float_word x0 (i - 7) d k
      ∙ sym (get_or-append (map to_word x0) (side_words o l u) 0 (i - 7) (omega (arith, length-map x0 to_word)))
      ∙ second_at (leading_words o (length x0)) (map to_word x0 ++ side_words o l u) i 7 refl h
      ∙ sym (ap (λ (ws : List ℕ). get_or ws i 0) (setup_spelled o x0 l u))

  boxed : (t : Bool) → o.bounded ≡ t → (i : ℕ) → 7 ≤ i → length x0 ≤ i - 7 → i < setup_size t (length x0) → o.bounded ≡ true
  boxed true e i h m k = e
  boxed false e i h m k = absurd (omega arith)

  pub bounds_at : Savable o x0 l u → (i : ℕ) → 7 ≤ i → length x0 ≤ i - 7 → i < setup_size o.bounded (length x0)
      → get_or (map to_word l ++ map to_word u) (i - 7 - length x0) 0 ≡ get_or (setup_words (P.setup_in o x0 l u)) i 0
  bounds_at s i h m k =
      let e = boxed o.bounded refl i h m k in
      let sides : map to_word l ++ map to_word u ≡ side_words o l u = rw e in
      ap (λ (ws : List ℕ). get_or ws (i - 7 - length x0) 0) sides
      ∙ second_at (map to_word x0) (side_words o l u) (i - 7) (length x0) (length-map x0 to_word) m
      ∙ second_at (leading_words o (length x0)) (map to_word x0 ++ side_words o l u) i 7 refl h
      ∙ sym (ap (λ (ws : List ℕ). get_or ws i 0) (setup_spelled o x0 l u))

  sides_length : Savable o x0 l u → (t : Bool) → o.bounded ≡ t → 7 + (length x0 + length (side_words o l u)) ≡ setup_size t (length x0)
  sides_length s true e =
      rw e (omega (arith, s.lower e, s.upper e, length-append (map to_word l) (map to_word u), length-map l to_word, length-map u to_word))
  sides_length s false e = rw e (omega arith)

  -- how many words a setup has
  pub setup_size_lem : Savable o x0 l u → length (setup_words (P.setup_in o x0 l u)) ≡ setup_size o.bounded (length x0)
  setup_size_lem s =
      ap length (setup_spelled o x0 l u)
      ∙ length-append (leading_words o (length x0)) (map to_word x0 ++ side_words o l u)
      ∙ ap (λ (k : ℕ). 7 + k) (length-append (map to_word x0) (side_words o l u) ∙ ap (λ (k : ℕ). k + length (side_words o l u)) (length-map x0 to_word))
      ∙ sides_length s o.bounded refl

  pub saved_first : Savable o x0 l u → (log : List ℕ) (i : ℕ) → i < setup_size o.bounded (length x0)
      → get_or (setup_words (P.setup_in o x0 l u)) i 0 ≡ get_or (saved_words (P.setup_in o x0 l u) log) i 0
  saved_first s log i h = sym (get_or-append (setup_words (P.setup_in o x0 l u)) log 0 i (omega (arith, setup_size_lem s)))

  pub saved_second : Savable o x0 l u → (log : List ℕ) (i n : ℕ) → n ≡ setup_size o.bounded (length x0) → n ≤ i
      → get_or log (i - n) 0 ≡ get_or (saved_words (P.setup_in o x0 l u) log) i 0
  saved_second s log i n e h = second_at (setup_words (P.setup_in o x0 l u)) log i n (setup_size_lem s ∙ sym e) h

  pub saved_size : Savable o x0 l u → (log : List ℕ) → length (saved_words (P.setup_in o x0 l u) log) ≡ setup_size o.bounded (length x0) + length log
  saved_size s log = length-append (setup_words (P.setup_in o x0 l u)) log ∙ ap (λ (k : ℕ). k + length log) (setup_size_lem s)

-- every accepted setup can be saved
pub accepted_savable : (o : Options) (x0 l u : List Float) → validate (P.setup_in o x0 l u) ≡ None → Savable o x0 l u
accepted_savable o x0 l u e =
    let k = accepted_in_limits (P.setup_in o x0 l u) e in
    record {
      most = k.coordinates.1;
      pairs = given_small o.maxcor k.pairs.1;
      lower = λ b. rw b at k.lower;
      upper = λ b. rw b at k.upper;
    }
  where
    given_small : (m : Option ℕ) → or_else m 10 ≤ most_pairs → or_else m 0 ≤ 255
    given_small None h = omega arith
    given_small (Some m) h = omega arith

-- ---- words one behind the other, with their sums

bytes_one : (a : List ℕ) (w : ℕ) → bytes (a ++ (w ∷ [])) ≡ bytes a ++ bytes_of 8 w
unfolding bytes
bytes_one a w = bytes-append a (w ∷ []) ∙ ap (λ (b : List ℕ). bytes a ++ b) (append-nil (bytes_of 8 w))

-- one more word behind those that are written
word_behind : (l m : List ℕ) (ws : List ℕ) (w at : ℕ) → at ≡ 8 * length ws → at + 8 ≤ length l → m ≡ overwritten (bytes ws) l
    → take at m ++ bytes_of 8 w ++ drop (at + 8) m ≡ overwritten (bytes (ws ++ (w ∷ []))) l
word_behind l m ws w at e h f =
    let size : length (bytes ws) ≡ at = bytes-length ws ∙ sym e in
    let eight : length (bytes_of 8 w) ≡ 8 = bytes_count 8 w in
    let from : 0 + length (bytes ws) ≡ at = omega (arith, size) in
    let front : length (bytes ws) ≡ 0 + length (bytes ws) = omega arith in
    let first : m ≡ put l 0 (bytes ws) = f ∙ ap (λ (k : ℕ). bytes ws ++ drop k l) front in
    let whole : 0 + length (bytes ws ++ bytes_of 8 w) ≡ length (bytes ws ++ bytes_of 8 w) = omega arith in
    ap₂ (λ (i j : ℕ). take i m ++ bytes_of 8 w ++ drop (i + j) m) (sym from) (sym eight)
    ∙ put-append l m 0 (bytes ws) (bytes_of 8 w) (omega (arith, size, eight)) first
    ∙ ap (λ (k : ℕ). bytes ws ++ bytes_of 8 w ++ drop k l) whole
    ∙ ap (λ (b : List ℕ). overwritten b l) (sym (bytes_one ws w))

pub record Writing (ws out₀ : List ℕ) (count : ℕ) (out : List ℕ) (t : Sums) (i : ℕ) : Type 0 where
  pub reach : i ≤ count
  pub size : count ≡ length ws
  pub room : 8 * count ≤ length out₀
  pub long : length out ≡ length out₀
  pub written : out ≡ overwritten (bytes (take i ws)) out₀
  pub sums : sums_of t ≡ sums (take i ws)

pub writing_none : (ws out : List ℕ) (count : ℕ) {t : Sums} → count ≡ length ws → 8 * count ≤ length out → (t.plain ≡ 0) × (t.running ≡ 0)
    → Writing ws out count out t 0
unfolding bytes sums_from
writing_none ws out count e h z = record { reach = omega arith; size = e; room = h; long = refl; written = refl; sums = summing_none z }

pub writing_more : {ws out₀ out out' : List ℕ} {count i w : ℕ} {t u : Sums} → Writing ws out₀ count out t i → i < count
    → w ≡ get_or ws i 0 → out' ≡ take (8 * i) out ++ bytes_of 8 w ++ drop (8 * i + 8) out → sums_of u ≡ added w (sums_of t)
    → Writing ws out₀ count out' u (i + 1)
writing_more {ws} {out₀} {out} {out'} {count} {i} {w} {t} {u} h l e f k =
    let next : take (i + 1) ws ≡ take i ws ++ (w ∷ [])
    = ap (λ (j : ℕ). take j ws) (add-one i) ∙ take-suc ws i 0 (omega (arith, h.size)) ∙ ap (λ (v : ℕ). take i ws ++ (v ∷ [])) (sym e) in
    let size : length (take i ws) ≡ i = length-take-le i ws (omega (arith, h.size)) in
    let end : 8 * i + 8 ≡ 8 * i + length (bytes_of 8 w) = omega (arith, bytes_count 8 w) in
    let fits : 8 * i + 8 ≤ length out₀ = omega (arith, h.room) in
    record {
      reach = omega arith;
      size = h.size;
      room = h.room;
      long =
          ap length (f ∙ ap (λ (k : ℕ). take (8 * i) out ++ bytes_of 8 w ++ drop k out) end)
          ∙ put-length out (8 * i) (bytes_of 8 w) (omega (arith, fits, h.long, bytes_count 8 w))
          ∙ h.long;
      written =
          f ∙ word_behind out₀ out (take i ws) w (8 * i) (omega (arith, size)) fits h.written ∙ ap (λ (v : List ℕ). overwritten (bytes v) out₀) (sym next);
      sums = k ∙ ap (added w) h.sums ∙ sym (sums_one (take i ws) w) ∙ ap sums (sym next);
    }

-- ---- the trailer, and the whole

-- two words one behind the other
pub words-put : (l m : List ℕ) (at j : ℕ) (a : List ℕ) (w : ℕ) → j ≡ at + length a → j + 8 ≤ length l → m ≡ take at l ++ a ++ drop j l
    → take j m ++ bytes_of 8 w ++ drop (j + 8) m ≡ take at l ++ (a ++ bytes_of 8 w) ++ drop (j + 8) l
words-put l m at j a w e h f =
    let eight : length (bytes_of 8 w) ≡ 8 = bytes_count 8 w in
    let joined : length (a ++ bytes_of 8 w) ≡ length a + 8 = length-append a (bytes_of 8 w) ∙ ap (λ (k : ℕ). length a + k) eight in
    let end : at + length (a ++ bytes_of 8 w) ≡ j + 8 = omega (arith, joined) in
    ap₂ (λ (i k : ℕ). take i m ++ bytes_of 8 w ++ drop (i + k) m) e (sym eight)
    ∙ put-append l m at a (bytes_of 8 w) (omega (arith, eight)) (f ∙ ap (λ (k : ℕ). take at l ++ a ++ drop k l) e)
    ∙ ap (λ (k : ℕ). take at l ++ (a ++ bytes_of 8 w) ++ drop k l) end

pub trailer_put : (l p q r : List ℕ) (at a b c d : ℕ) → at + 32 ≤ length l
    → p ≡ take at l ++ bytes_of 8 a ++ drop (at + 8) l
    → q ≡ take (at + 8) p ++ bytes_of 8 b ++ drop (at + 8 + 8) p
    → r ≡ take (at + 16) q ++ bytes_of 8 c ++ drop (at + 16 + 8) q
    → take (at + 24) r ++ bytes_of 8 d ++ drop (at + 24 + 8) r ≡ take at l ++ bytes (a ∷ b ∷ c ∷ d ∷ []) ++ drop (at + 32) l
unfolding bytes
trailer_put l p q r at a b c d h e f g =
    let eight : (w : ℕ) → length (bytes_of 8 w) ≡ 8 = bytes_count 8 in
    let two : length (bytes_of 8 a ++ bytes_of 8 b) ≡ 16 = omega (arith, length-append (bytes_of 8 a) (bytes_of 8 b), eight a, eight b) in
    let three : length (bytes_of 8 a ++ bytes_of 8 b ++ bytes_of 8 c) ≡ 24
    = omega (arith, length-append (bytes_of 8 a ++ bytes_of 8 b) (bytes_of 8 c), two, eight c) in
    let i : at + 8 + 8 ≡ at + 16 = omega arith in
    let j : at + 16 + 8 ≡ at + 24 = omega arith in
    let k : at + 24 + 8 ≡ at + 32 = omega arith in
    let q-is =
    f ∙ words-put l p at (at + 8) (bytes_of 8 a) b (omega (arith, eight a)) (omega arith) e
    ∙ ap (λ (x : ℕ). take at l ++ (bytes_of 8 a ++ bytes_of 8 b) ++ drop x l) i in
    let r-is
    = g
    ∙ words-put l q at (at + 16) (bytes_of 8 a ++ bytes_of 8 b) c (omega (arith, two)) (omega arith) q-is
    ∙ ap (λ (x : ℕ). take at l ++ (bytes_of 8 a ++ bytes_of 8 b ++ bytes_of 8 c) ++ drop x l) j in
    words-put l r at (at + 24) (bytes_of 8 a ++ bytes_of 8 b ++ bytes_of 8 c) d (omega (arith, three)) (omega arith) r-is
    ∙ ap (λ (x : ℕ). take at l ++ (bytes_of 8 a ++ bytes_of 8 b ++ bytes_of 8 c ++ bytes_of 8 d) ++ drop x l) k
    ∙ ap (λ (x : List ℕ). take at l ++ x ++ drop (at + 32) l) (joined (bytes_of 8 a) (bytes_of 8 b) (bytes_of 8 c) (bytes_of 8 d))
  where
    joined : (a b c d : List ℕ) → a ++ b ++ c ++ d ≡ a ++ (b ++ (c ++ (d ++ [])))
    joined a b c d = simp (append_assoc, append-nil)

trailer_same : (ws : List ℕ) (t : Sums) (count : ℕ) → sums_of t ≡ sums ws → count ≡ length ws → trailer_of t count ≡ trailer ws
trailer_same ws t count e f = ap₂ (λ (u : R.Sums) (k : ℕ). u.plain ∷ u.running ∷ 1 ∷ k ∷ []) e f

-- the words, then the trailer behind them
pub record_put : (ws out m r : List ℕ) (t : Sums) (count : ℕ) → Summed ws out t m → count ≡ length ws → 8 * (count + 4) ≤ length out
    → r ≡ take (8 * count) m ++ bytes (trailer_of t count) ++ drop (8 * count + 32) m → r ≡ overwritten (bytes (ws ++ trailer ws)) out
record_put ws out m r t count h e room f =
    let size : length (bytes ws) ≡ 8 * count = bytes-length ws ∙ ap (λ (k : ℕ). 8 * k) (sym e) in
    let from : 8 * count ≡ 0 + length (bytes ws) = omega (arith, size) in
    let front : length (bytes ws) ≡ 0 + length (bytes ws) = omega arith in
    let four : length (bytes (trailer ws)) ≡ 32 = bytes-length (trailer ws) in
    let first : m ≡ put out 0 (bytes ws) = h.written ∙ ap (λ (k : ℕ). bytes ws ++ drop k out) front in
    let whole : 0 + length (bytes ws ++ bytes (trailer ws)) ≡ length (bytes ws ++ bytes (trailer ws)) = omega arith in
    f
    ∙ ap (λ (v : List ℕ). take (8 * count) m ++ bytes v ++ drop (8 * count + 32) m) (trailer_same ws t count h.sums e)
    ∙ ap₂ (λ (i k : ℕ). take i m ++ bytes (trailer ws) ++ drop (i + k) m) from (sym four)
    ∙ put-append out m 0 (bytes ws) (bytes (trailer ws)) (omega (arith, size, four)) first
    ∙ ap (λ (k : ℕ). bytes ws ++ bytes (trailer ws) ++ drop k out) whole
    ∙ ap (λ (b : List ℕ). overwritten b out) (sym (bytes-append ws (trailer ws)))

-- with the log's words of replies it is their record
pub saved_is : (s : Setup) (rs : List Reply) → bytes (saved_record s (log_words rs)) ≡ record_bytes (book s rs)
unfolding record_bytes record_words
saved_is s rs = refl
