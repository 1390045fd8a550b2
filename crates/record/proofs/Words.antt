-- Laws of words and their bytes, and of the sums over words. Assumes nothing.
use Rattle.std.proofs.Common.{◌≡◌, ℕ, zero, suc, ◌+◌, ◌*◌, ◌/◌, ◌≤◌, List, [], ◌∷◌, ◌++◌, map, length, get_or, take, drop, set, sym, refl, ap, ap₂, ◌∙◌}
use Rattle.std.proofs.Common.{arith, length-append, drop-cons, drop-drop}
use native.Mathlib.Numerals.{towards_suc}
use lib.Seq.{sets, sets-eq, length-sets}
use borrow.Rule.Slice.PartMut.{put_mid}
use Rattle.std.specs.Int.{w64, from_le_bytes, to_le_bytes}
use Rattle.std.proofs.lemmas.Slice.{put_mid-paste}
use Rattle.std.proofs.lemmas.List.{map-append}
use Rattle.std.specs.List.{range_with_len}
use Rattle.record.specs.declared.Sums as Code
use Rattle.record.specs.Records.{sums_of}
use Rattle.definition.specs.Record.{Sums, added, sums, sums_from, bytes_of, number_of, words_of}

-- ---- a word from bytes

drop_four : (l : List ℕ) (at : ℕ) → at + 4 ≤ length l
    → drop at l ≡ get_or l at 0 ∷ get_or l (at + 1) 0 ∷ get_or l (at + 2) 0 ∷ get_or l (at + 3) 0 ∷ drop (at + 4) l
drop_four l at h =
    simp towards_suc
    (drop-cons l at 0 (omega arith)
    ∙ ap (λ (r : List ℕ). get_or l at 0 ∷ r) (drop-cons l (suc at) 0 (omega arith))
    ∙ ap (λ (r : List ℕ). get_or l at 0 ∷ get_or l (suc at) 0 ∷ r) (drop-cons l (suc (suc at)) 0 (omega arith))
    ∙ ap (λ (r : List ℕ). get_or l at 0 ∷ get_or l (suc at) 0 ∷ get_or l (suc (suc at)) 0 ∷ r) (drop-cons l (suc (suc (suc at))) 0 (omega arith)))

pub word_number : (l : List ℕ) (at : ℕ) (bs : List ℕ) → at + 8 ≤ length l → bs ≡ take 8 (drop at l) → from_le_bytes w64 bs ≡ number_of (take 8 (drop at l))
unfolding number_of
word_number l at bs h e =
    let four : at + 4 + 4 ≤ length l = omega arith in
    rw (e, drop_four l at (omega arith), drop_four l (at + 4) four) (omega arith)

-- ---- a word into bytes

pub word_bytes : (w : ℕ) → to_le_bytes w64 w ≡ bytes_of 8 w
unfolding bytes_of
word_bytes w =
    let two : w / 256 / 256 ≡ w / 65536 = omega arith in
    let three : w / 256 / 256 / 256 ≡ w / 16777216 = omega arith in
    let four : w / 256 / 256 / 256 / 256 ≡ w / 4294967296 = omega arith in
    let five : w / 256 / 256 / 256 / 256 / 256 ≡ w / 1099511627776 = omega arith in
    let six : w / 256 / 256 / 256 / 256 / 256 / 256 ≡ w / 281474976710656 = omega arith in
    let seven : w / 256 / 256 / 256 / 256 / 256 / 256 / 256 ≡ w / 72057594037927936 = omega arith in
    rw (seven, six, five, four, three, two)

pub word-put : (l bs : List ℕ) (at k w : ℕ) → at + 8 ≤ length l → k ≡ 8 → bs ≡ bytes_of 8 w
    → put_mid at k l bs ≡ take at l ++ bytes_of 8 w ++ drop (at + 8) l
unfolding bytes_of
word-put l bs at k w h e f = put_mid-paste at k l bs (bytes_of 8 w) 8 f (sym e) refl

-- `bs` put from `at` on
abbrev pub put : List ℕ → ℕ → List ℕ → List ℕ
put l at bs = take at l ++ bs ++ drop (at + length bs) l

sets_append : (l : List ℕ) (at : ℕ) (a b : List ℕ) → sets (sets l at a) (at + length a) b ≡ sets l at (a ++ b)
sets_append l at [] b = ap (λ (k : ℕ). sets l k b) (omega arith)
sets_append l at (x ∷ a) b =
    let e : at + suc (length a) ≡ suc at + length a = omega arith in
    ap (λ (k : ℕ). sets (sets (set l at x) (suc at) a) k b) e ∙ sets_append (set l at x) (suc at) a b

-- two runs of bytes, one behind the other
pub put-append : (l m : List ℕ) (at : ℕ) (a b : List ℕ) → at + length a + length b ≤ length l → m ≡ put l at a → put m (at + length a) b ≡ put l at (a ++ b)
put-append l m at a b h e =
    let first : m ≡ sets l at a = e ∙ sym (sets-eq a l at (omega arith)) in
    let long : length m ≡ length l = ap length first ∙ length-sets l at a in
    sym (sets-eq b m (at + length a) (omega (arith, long)))
    ∙ ap (λ (k : List ℕ). sets k (at + length a) b) first
    ∙ sets_append l at a b
    ∙ sets-eq (a ++ b) l at (omega (arith, length-append a b))

pub put-length : (l : List ℕ) (at : ℕ) (a : List ℕ) → at + length a ≤ length l → length (put l at a) ≡ length l
put-length l at a h = ap length (sym (sets-eq a l at h)) ∙ length-sets l at a

pub bytes_count : (k w : ℕ) → length (bytes_of k w) ≡ k
unfolding bytes_of
bytes_count zero w = refl
bytes_count (suc k) w = ap suc (bytes_count k (w / 256))

-- ---- sums, word by word

sums-append : (a b : List ℕ) (t : Sums) → sums_from (a ++ b) t ≡ sums_from b (sums_from a t)
unfolding sums_from
sums-append [] b t = refl
sums-append (w ∷ a) b t = sums-append a b (added w t)

pub sums_one : (a : List ℕ) (w : ℕ) → sums (a ++ (w ∷ [])) ≡ added w (sums a)
unfolding sums_from
sums_one a w = sums-append a (w ∷ []) (record { plain = 0; running = 0 })

-- the word of eight bytes, number i
abbrev pub numbered : List ℕ → ℕ → ℕ
numbered bs i = number_of (take 8 (drop (8 * i) bs))

pub summing_more : (bs : List ℕ) (is : List ℕ) (i : ℕ) {t u : Sums} → t ≡ sums (map (numbered bs) is) → u ≡ added (numbered bs i) t
    → u ≡ sums (map (numbered bs) (is ++ (i ∷ [])))
summing_more bs is i h e =
    e ∙ ap (added (numbered bs i)) h ∙ sym (sums_one (map (numbered bs) is) (numbered bs i)) ∙ ap sums (sym (map-append (numbered bs) is (i ∷ [])))

pub numbered_words : (bs : List ℕ) (i n : ℕ) → map (numbered bs) (range_with_len i n) ≡ words_of n (drop (8 * i) bs)
unfolding words_of
numbered_words bs i zero = refl
numbered_words bs i (suc n) =
    let ahead : 8 * i + 8 ≡ 8 * (i + 1) = omega arith in
    ap (λ (ws : List ℕ). numbered bs i ∷ ws)
    (numbered_words bs (i + 1) n ∙ ap (words_of n) (sym (drop-drop 8 (8 * i) bs ∙ ap (λ (k : ℕ). drop k bs) ahead)))

-- no word yet
pub summing_none : {t : Code.Sums} → (t.plain ≡ 0) × (t.running ≡ 0) → sums_of t ≡ sums []
unfolding sums_from
summing_none {t} h = ap₂ (λ (p r : ℕ). record { plain = p; running = r }) h.0 h.1
