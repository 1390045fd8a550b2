-- A change of exactly one word before the trailer is refused by 18, whatever the words: the plain sum is another one. Assumes nothing.
use Prim.Native.Nat.{ℕ, zero, suc, ◌+◌, ◌%◌, ◌<◌}
use native.Mathlib.Omega.{arith}
use mathlib.Core.Path.{◌≡◌, refl, sym, ap, ◌∙◌, subst}
use mathlib.Core.Logic.{◌≢◌}
use mathlib.Core.Bool.{Bool, true, false}
use mathlib.Core.List.{List, [], ◌∷◌, ◌++◌}
use lib.Dec.{eqb}
use lib.ListN.{length, get_or, set, length-set}
use borrow.Author.Tests.{eqb-true}
use Rattle.definition.specs.Record.{Lengths, Reading, Sums, word_size, added, sums_from, sums, trailer, bytes}
use Rattle.definition.specs.Record.{plain_refusal, same_sums, check_words, read_words, read_record}
use Rattle.definition.specs.Values.{Words}
use Rattle.definition.proofs.Tests.{both_true}
use Rattle.definition.proofs.Lists.{each_at, each_set}
use Rattle.definition.proofs.Frames.{trailing, read_framed}

total : List ℕ → ℕ
total [] = 0
total (w ∷ ws) = w + total ws

total_set : (ws : List ℕ) (i w : ℕ) → i < length ws → total (set ws i w) + get_or ws i 0 ≡ total ws + w
unfolding total
total_set [] i w h = absurd (omega arith)
total_set (v ∷ ws) zero w h = omega arith
total_set (v ∷ ws) (suc i) w h = let e = total_set ws i w (omega arith) in omega arith

plain_from : (ws : List ℕ) (t : Sums) → t.plain < word_size → (sums_from ws t).plain ≡ (t.plain + total ws) % word_size
unfolding sums_from total
plain_from [] t h = omega arith
plain_from (w ∷ ws) t h = let e = plain_from ws (added w t) (omega arith) in omega arith

record SumsBelow (t : Sums) : Type 0 where
  plain : t.plain < word_size
  running : t.running < word_size

sums_below : (ws : List ℕ) (t : Sums) → SumsBelow t → SumsBelow (sums_from ws t)
unfolding sums_from
sums_below [] t h = h
sums_below (w ∷ ws) t h = sums_below ws (added w t) (record { plain = omega arith; running = omega arith })

pub trailer_words : (ws : List ℕ) → length ws < word_size → Words (trailer ws)
trailer_words ws h =
    let k = sums_below ws (record { plain = 0; running = 0 }) (record { plain = omega arith; running = omega arith }) in
    (k.plain, (k.running, (omega arith, (h, tt))))

plain_changes : (ws : List ℕ) (i w : ℕ) → Words ws → i < length ws → w < word_size → w ≢ get_or ws i 0 → (sums (set ws i w)).plain ≢ (sums ws).plain
plain_changes ws i w h k l n e =
    let start : Sums = record { plain = 0; running = 0 } in
    let a = plain_from (set ws i w) start (omega arith) in
    let b = plain_from ws start (omega arith) in
    let c = total_set ws i w k in
    let d = each_at (λ v. v < word_size) ws i 0 h k in
    n (same (total (set ws i w)) (total ws) w (get_or ws i 0) l d c (sym a ∙ e ∙ b))
  where
    same : (x y w v : ℕ) → w < word_size → v < word_size → x + v ≡ y + w → (0 + x) % word_size ≡ (0 + y) % word_size → w ≡ v
    same x y w v l d c e = omega arith

-- the test of the sums tests both
pub sums_agree_lem : (ws : List ℕ) (p q : ℕ) → same_sums ws p q ≡ true → ((sums ws).plain ≡ p) × ((sums ws).running ≡ q)
sums_agree_lem ws p q e =
    let both = both_true (eqb (sums ws).plain p) (eqb (sums ws).running q) e in
    (eqb-true (sums ws).plain p both.0, eqb-true (sums ws).running q both.1)

other_sums : (z : Lengths) (ws : List ℕ) (p q : ℕ) → (sums ws).plain ≢ p → read_words z ws p q ≡ Reading.refused (plain_refusal 18)
unfolding read_words check_words
other_sums z ws p q n = go (same_sums ws p q) refl
  where
    go : (t : Bool) → same_sums ws p q ≡ t → read_words z ws p q ≡ Reading.refused (plain_refusal 18)
    go true e = absurd (n (sums_agree_lem ws p q e).0)
    go false e = rw e

-- words under a trailer of other words' sums
pub one_changed_word : (z : Lengths) (ahead ws : List ℕ) (i w : ℕ) → Words ws → length ws < word_size → i < length ws → w < word_size → w ≢ get_or ws i 0
    → read_record z (ahead ++ bytes (set ws i w ++ trailer ws)) ≡ Reading.refused (plain_refusal 18)
one_changed_word z ahead ws i w h size k l n =
    let p = (sums ws).plain in
    let q = (sums ws).running in
    let same : length ws ≡ length (set ws i w) = sym (length-set ws i w) in
    let t = trailer_words ws size in
    ap (λ (c : ℕ). read_record z (ahead ++ bytes (set ws i w ++ trailing p q c))) same
    ∙ read_framed z ahead (set ws i w) p q (each_set _ ws i w h l) (subst (λ (c : ℕ). Words (trailing p q c)) same t)
    ∙ other_sums z (set ws i w) p q (plain_changes ws i w h k l n)
