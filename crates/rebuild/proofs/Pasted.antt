-- Laws of a loop that stores a record's words at the front of the log. Assumes nothing.
use Prim.Native.Nat.{ℕ, ◌+◌, ◌-◌, ◌*◌, ◌≤◌, ◌<◌}
use native.Mathlib.Omega.{arith}
use native.Mathlib.Numerals.{add-one}
use mathlib.Core.Path.{◌≡◌, refl, sym, ap₂, ◌∙◌}
use mathlib.Core.List.{List, [], ◌∷◌, ◌++◌}
use lib.ListN.{length, get_or, set, take, drop, length-set}
use lib.Seq.{take_all, take-suc, take-set-le, get_or-set_same}
use borrow.Rule.Slice.PartMut.{post_of, mid_len}
use Rattle.definition.specs.Record.{number_of, words_of}
use Rattle.definition.proofs.Bytes.{words_of-length}
use Rattle.record.proofs.Reading.{word-get}
use Rattle.rebuild.specs.Built.{headed}

-- the first i of the words lent are those of the bytes
pub record Copying (bs : List ℕ) (count : ℕ) (b : List ℕ) (i : ℕ) : Type 0 where
  pub upto : i ≤ count
  pub long : length b ≡ count
  pub is : take i b ≡ take i (words_of count bs)

pub copying_none : {bs : List ℕ} {count : ℕ} (log : List ℕ) → count ≤ length log → Copying bs count (take (count - 0) (drop 0 log)) 0
copying_none {count = count} log h =
    let whole : count - 0 ≡ count = omega arith in
    record { upto = omega arith; long = mid_len 0 count log h ∙ whole; is = refl }

pub copying_more : {bs b : List ℕ} {count i w : ℕ} → Copying bs count b i → i < count → w ≡ number_of (take 8 (drop (8 * i) bs))
    → Copying bs count (set b i w) (i + 1)
copying_more {bs} {b} {count} {i} {w} h l e =
    let ws = words_of count bs in
    let here : i < length b = omega (arith, h.long) in
    let word : get_or (set b i w) i 0 ≡ get_or ws i 0 = get_or-set_same b i w 0 here ∙ e ∙ sym (word-get count i bs l) in
    record {
      upto = omega arith;
      long = length-set b i w ∙ h.long;
      is =
          rw add-one
          (take-suc (set b i w) i 0 (omega (arith, length-set b i w))
          ∙ ap₂ (λ (a : List ℕ) (v : ℕ). a ++ (v ∷ [])) (take-set-le i b i w (omega arith) ∙ h.is) word
          ∙ sym (take-suc ws i 0 (omega (arith, words_of-length count bs))));
    }

pub copying_done : {bs b : List ℕ} {count i : ℕ} (log : List ℕ) → Copying bs count b i → count ≤ i
    → b ++ post_of 0 (count - 0) log ≡ headed (words_of count bs) log
copying_done {bs} {b} {count} {i} log h l =
    let ws = words_of count bs in
    let size : length ws ≡ count = words_of-length count bs in
    let all : b ≡ ws = sym (take_all i b (omega (arith, h.long))) ∙ h.is ∙ take_all i ws (omega (arith, size)) in
    let rest : count - 0 ≡ length ws = omega (arith, size) in
    ap₂ (λ (a : List ℕ) (k : ℕ). a ++ drop k log) all rest
