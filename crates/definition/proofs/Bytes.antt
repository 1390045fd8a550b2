-- Words to bytes and back, and bytes to words and back. Assumes nothing.
use Prim.Native.Nat.{ℕ, zero, suc, ◌+◌, ◌*◌, ◌/◌, ◌%◌, ◌^◌, ◌≤◌, ◌<◌}
use native.Mathlib.Omega.{arith}
use mathlib.Core.Path.{◌≡◌, refl, sym, ap, ap₂, ◌∙◌, subst}
use mathlib.Core.List.{List, [], ◌∷◌, ◌++◌, append_assoc}
use lib.ListN.{length, take, drop, length-append, length-take, length-drop}
use lib.Seq.{take_at, drop_at, take-add, length-take-le}
use Rattle.definition.specs.Record.{bytes_of, bytes, number_of, words_of}
use Rattle.definition.specs.Values.{Bytes, Words}
use Rattle.definition.proofs.Lists.{each_take, each_drop}

-- ---- one word

bytes_of-length : (k w : ℕ) → length (bytes_of k w) ≡ k
unfolding bytes_of
bytes_of-length zero w = refl
bytes_of-length (suc k) w = ap suc (bytes_of-length k (w / 256))

number_of_bytes : (k w : ℕ) → w < 256 ^ k → number_of (bytes_of k w) ≡ w
unfolding bytes_of number_of
number_of_bytes zero w h = omega arith
number_of_bytes (suc k) w h = let e = number_of_bytes k (w / 256) (omega arith) in omega arith

number_below : (k : ℕ) (bs : List ℕ) → Bytes bs → length bs ≤ k → number_of bs < 256 ^ k
unfolding number_of
number_below zero [] h l = omega arith
number_below zero (b ∷ bs) h l = absurd (omega arith)
number_below (suc k) [] h l = let e = number_below k [] tt (omega arith) in omega arith
number_below (suc k) (b ∷ bs) h l = let e = number_below k bs h.1 (omega arith) in omega (arith, h.0)

bytes_of_number : (bs : List ℕ) → Bytes bs → bytes_of (length bs) (number_of bs) ≡ bs
unfolding bytes_of number_of
bytes_of_number [] h = refl
bytes_of_number (b ∷ bs) h =
    let low : (b + 256 * number_of bs) % 256 ≡ b = omega (arith, h.0) in
    let high : (b + 256 * number_of bs) / 256 ≡ number_of bs = omega (arith, h.0) in
    ap₂ (λ (x y : ℕ). x ∷ bytes_of (length bs) y) low high ∙ ap (λ (l : List ℕ). b ∷ l) (bytes_of_number bs h.1)

-- ---- lists of words

pub bytes-length : (ws : List ℕ) → length (bytes ws) ≡ 8 * length ws
unfolding bytes
bytes-length [] = refl
bytes-length (w ∷ ws) = omega (arith, length-append (bytes_of 8 w) (bytes ws), bytes_of-length 8 w, bytes-length ws)

pub bytes-append : (a b : List ℕ) → bytes (a ++ b) ≡ bytes a ++ bytes b
unfolding bytes
bytes-append [] b = refl
bytes-append (w ∷ a) b = ap (λ (l : List ℕ). bytes_of 8 w ++ l) (bytes-append a b) ∙ sym (append_assoc (bytes_of 8 w) (bytes a) (bytes b))

-- 64-bit words, written as bytes and read again
pub words_of-bytes : (ws rest : List ℕ) → Words ws → words_of (length ws) (bytes ws ++ rest) ≡ ws
unfolding bytes words_of
words_of-bytes [] rest h = refl
words_of-bytes (w ∷ ws) rest h =
    let front = bytes_of 8 w in
    let behind = bytes ws ++ rest in
    ap (λ (l : List ℕ). number_of (take 8 l) ∷ words_of (length ws) (drop 8 l)) (append_assoc front (bytes ws) rest)
    ∙ ap₂ (λ (a b : List ℕ). number_of a ∷ words_of (length ws) b) (take_at front behind 8 (bytes_of-length 8 w)) (drop_at front behind 8 (bytes_of-length 8 w))
    ∙ ap₂ (λ (a : ℕ) (b : List ℕ). a ∷ b) (number_of_bytes 8 w h.0) (words_of-bytes ws rest h.1)

-- bytes, read as words and written again
pub bytes_of-words : (k : ℕ) (bs : List ℕ) → Bytes bs → 8 * k ≤ length bs → bytes (words_of k bs) ≡ take (8 * k) bs
unfolding bytes words_of
bytes_of-words zero bs h l = refl
bytes_of-words (suc k) bs h l =
    let e : length (take 8 bs) ≡ 8 = length-take-le 8 bs (omega arith) in
    let first : bytes_of 8 (number_of (take 8 bs)) ≡ take 8 bs
    = subst (λ (n : ℕ). bytes_of n (number_of (take 8 bs)) ≡ take 8 bs) e (bytes_of_number (take 8 bs) (each_take _ 8 bs h)) in
    let more : 8 * suc k ≡ 8 + 8 * k = omega arith in
    ap₂ ◌++◌ first (bytes_of-words k (drop 8 bs) (each_drop _ 8 bs h) (omega (arith, length-drop 8 bs)))
    ∙ sym (take-add 8 (8 * k) bs)
    ∙ ap (λ (n : ℕ). take n bs) (sym more)

pub words_below : (k : ℕ) (bs : List ℕ) → Bytes bs → Words (words_of k bs)
unfolding words_of
words_below zero bs h = tt
words_below (suc k) bs h = (number_below 8 (take 8 bs) (each_take _ 8 bs h) (omega (arith, length-take 8 bs)), words_below k (drop 8 bs) (each_drop _ 8 bs h))

pub words_of-length : (k : ℕ) (bs : List ℕ) → length (words_of k bs) ≡ k
unfolding words_of
words_of-length zero bs = refl
words_of-length (suc k) bs = ap suc (words_of-length k (drop 8 bs))
