-- Where a record stands in the bytes that hold it: at their end, behind any others. Assumes nothing.
use Prim.Native.Nat.{ℕ, ◌+◌, ◌-◌, ◌*◌, ◌≤◌}
use native.Mathlib.Omega.{arith}
use mathlib.Core.Path.{◌≡◌, refl, sym, ap, ap₂, ◌∙◌}
use mathlib.Core.Bool.{Bool, true, false, cond, ◌&&◌}
use mathlib.Core.List.{List, [], ◌∷◌, ◌++◌, append_assoc, append-nil}
use lib.Dec.{ltb, leb}
use lib.ListN.{length, get_or, take, drop, length-append, length-drop, take-append-drop}
use lib.Seq.{drop_at, take_all, drop-drop}
use borrow.Author.Tests.{eqb-true, ltb-false, leb-true, le-ltb, le-leb}
use Rattle.definition.specs.Problem.{Refusal}
use Rattle.definition.specs.Book.{Book}
use Rattle.definition.specs.Record.{Lengths, Reading, written_version, known_version, bytes, words_of, plain_refusal, read_trailed, read_words, read_record}
use Rattle.definition.specs.Values.{Bytes, Words}
use Rattle.definition.proofs.Lists.{each_drop}
use Rattle.definition.proofs.Bytes.{bytes-length, bytes-append, words_of-bytes, bytes_of-words, words_below, words_of-length}

-- ---- a record is found behind any bytes

abbrev pub trailing : ℕ → ℕ → ℕ → List ℕ
trailing p q count = p ∷ q ∷ written_version ∷ count ∷ []

read_at : (z : Lengths) (bs : List ℕ) (p q count : ℕ) → 32 + 8 * count ≤ length bs → words_of 4 (drop (length bs - 32) bs) ≡ trailing p q count
    → read_record z bs ≡ read_words z (words_of count (drop (length bs - 32 - 8 * count) bs)) p q
unfolding read_record
read_at z bs p q count h e =
    let long : ltb (length bs) 32 ≡ false = le-ltb (length bs) 32 (omega arith) in
    let room : leb (8 * count) (length bs - 32) ≡ true = le-leb (8 * count) (length bs - 32) (omega arith) in
    rw (long, e, room)

pub read_framed : (z : Lengths) (ahead ws : List ℕ) (p q : ℕ) → Words ws → Words (trailing p q (length ws))
    → read_record z (ahead ++ bytes (ws ++ trailing p q (length ws))) ≡ read_words z ws p q
read_framed z ahead ws p q h k =
    let t = trailing p q (length ws) in
    let whole = ahead ++ bytes (ws ++ t) in
    let whole_is : whole ≡ ahead ++ (bytes ws ++ bytes t) = ap (λ (l : List ℕ). ahead ++ l) (bytes-append ws t) in
    let size : length whole ≡ length ahead + 8 * length ws + 32
    = omega (arith, length-append ahead (bytes (ws ++ t)), bytes-length (ws ++ t), length-append ws t) in
    let at-trailer : drop (length whole - 32) whole ≡ bytes t ++ []
    = ap (drop (length whole - 32)) (whole_is ∙ sym (append_assoc ahead (bytes ws) (bytes t)))
    ∙ drop_at (ahead ++ bytes ws) (bytes t) (length whole - 32) (omega (arith, size, length-append ahead (bytes ws), bytes-length ws))
    ∙ sym (append-nil (bytes t)) in
    let at_words : drop (length whole - 32 - 8 * length ws) whole ≡ bytes ws ++ bytes t
    = ap (drop (length whole - 32 - 8 * length ws)) whole_is
    ∙ drop_at ahead (bytes ws ++ bytes t) (length whole - 32 - 8 * length ws) (omega (arith, size)) in
    read_at z whole p q (length ws) (omega (arith, size)) (ap (words_of 4) at-trailer ∙ words_of-bytes t [] k)
    ∙ ap (λ (l : List ℕ). read_words z (words_of (length ws) l) p q) at_words
    ∙ ap (λ (l : List ℕ). read_words z l p q) (words_of-bytes ws (bytes t) h)

-- ---- what is accepted stood so

-- `ws` are the words before a trailer with the sums p and q
pub record Framed (z : Lengths) (bs : List ℕ) (k : Book) : Type 0 where
  pub ws : List ℕ
  pub p : ℕ
  pub q : ℕ
  pub read : read_words z ws p q ≡ Reading.accepted k
  pub words : Bytes bs → Words ws
  pub stands : Bytes bs → (ahead : List ℕ) × (bs ≡ ahead ++ bytes (ws ++ trailing p q (length ws)))

unless_true : (t : Bool) (c : Refusal) (r : Reading) (k : Book) → cond t (Reading.refused c) r ≡ Reading.accepted k
    → (t ≡ false) × (r ≡ Reading.accepted k)
unless_true true c r k e = let z : ◌≡◌ {A = ℕ} 0 1 = cc in absurd (omega arith)
unless_true false c r k e = (refl, e)

unless_false : (a b : Bool) (c : Refusal) (r : Reading) (k : Book) → cond (a && b) r (Reading.refused c) ≡ Reading.accepted k
    → (a ≡ true) × (b ≡ true) × (r ≡ Reading.accepted k)
unless_false true true c r k e = (refl, refl, e)
unless_false true false c r k e = let z : ◌≡◌ {A = ℕ} 0 1 = cc in absurd (omega arith)
unless_false false b c r k e = let z : ◌≡◌ {A = ℕ} 0 1 = cc in absurd (omega arith)

-- bytes from place i on are `count` words and a trailer
stands_at : (bs : List ℕ) (i count : ℕ) → Bytes bs → i + 8 * count + 32 ≡ length bs
    → bs ≡ take i bs ++ bytes (words_of count (drop i bs) ++ words_of 4 (drop (i + 8 * count) bs))
stands_at bs i count h e =
    let body = drop i bs in
    let tail = drop (i + 8 * count) bs in
    let words : bytes (words_of count body) ≡ take (8 * count) body = bytes_of-words count body (each_drop _ i bs h) (omega (arith, length-drop i bs)) in
    let trailer : bytes (words_of 4 tail) ≡ tail
    = bytes_of-words 4 tail (each_drop _ (i + 8 * count) bs h) (omega (arith, length-drop (i + 8 * count) bs))
    ∙ take_all 32 tail (omega (arith, length-drop (i + 8 * count) bs)) in
    sym (take-append-drop i bs)
    ∙ ap (λ (l : List ℕ). take i bs ++ l)
    (sym (take-append-drop (8 * count) body) ∙ ap₂ ◌++◌ (sym words) (drop-drop (8 * count) i bs ∙ sym trailer)
    ∙ sym (bytes-append (words_of count body) (words_of 4 tail)))

four_words : (bs : List ℕ) (count : ℕ) → get_or (words_of 4 bs) 2 0 ≡ 1 → get_or (words_of 4 bs) 3 0 ≡ count
    → words_of 4 bs ≡ trailing (get_or (words_of 4 bs) 0 0) (get_or (words_of 4 bs) 1 0) count
unfolding words_of
four_words bs count e f = ap₂ (λ (a b : ℕ). get_or (words_of 4 bs) 0 0 ∷ get_or (words_of 4 bs) 1 0 ∷ a ∷ b ∷ []) e f

pub accepted_framed : (z : Lengths) (bs : List ℕ) (k : Book) → read_record z bs ≡ Reading.accepted k → Framed z bs k
unfolding read_record
accepted_framed z bs k e =
    let t = words_of 4 (drop (length bs - 32) bs) in
    let count = get_or t 3 0 in
    let i = length bs - 32 - 8 * count in
    let ws = words_of count (drop i bs) in
    let a = unless_true (ltb (length bs) 32) (plain_refusal 17) (read_trailed z bs t) k e in
    let b =
    unless_false (known_version (get_or t 2 0)) (leb (8 * count) (length bs - 32)) (plain_refusal 17) (read_words z ws (get_or t 0 0) (get_or t 1 0))
    k a.1 in
    let long : 32 ≤ length bs = ltb-false (length bs) 32 a.0 in
    let room : 8 * count ≤ length bs - 32 = leb-true (8 * count) (length bs - 32) b.1 in
    let at-trailer : i + 8 * count ≡ length bs - 32 = omega arith in
    let same : words_of 4 (drop (i + 8 * count) bs) ≡ trailing (get_or t 0 0) (get_or t 1 0) (length ws)
    = ap (λ (at : ℕ). words_of 4 (drop at bs)) at-trailer
    ∙ four_words (drop (length bs - 32) bs) (length ws) (eqb-true (get_or t 2 0) 1 b.0) (sym (words_of-length count (drop i bs))) in
    record {
      ws = ws;
      p = get_or t 0 0;
      q = get_or t 1 0;
      read = b.2;
      words = λ h. words_below count (drop i bs) (each_drop _ i bs h);
      stands = λ h. (take i bs, stands_at bs i count h (omega arith) ∙ ap (λ (l : List ℕ). take i bs ++ bytes (ws ++ l)) same);
    }
