-- Laws of floats put one behind the other into the front of an output. Assumes nothing.
use Prim.Native.Nat.{ℕ, ◌+◌, ◌*◌, ◌≤◌, ◌<◌}
use native.Mathlib.Numerals.{add-one}
use native.Mathlib.Omega.{arith}
use mathlib.Core.Path.{◌≡◌, refl, sym, ap, ap₂, ◌∙◌}
use mathlib.Core.List.{List, [], ◌∷◌, ◌++◌, map, append-nil, map-append}
use borrow.Author.Rules.{rules}
use lib.ListN.{length, get_or, take, drop, length-map, length-append, length-drop}
use lib.Seq.{take-suc, length-take-le}
use lib.Ieee.{Float}
use Rattle.definition.specs.Number.{to_word}
use Rattle.definition.specs.Record.{bytes_of, bytes}
use Rattle.definition.proofs.Bytes.{bytes-length, bytes-append}
use Rattle.question.specs.Reports.{written}
use Rattle.record.proofs.Saving.{words-put}

-- the bytes of the first i floats
abbrev pub first_bytes : List Float → ℕ → List ℕ
first_bytes x i = bytes (map to_word (take i x))

first_length : (x : List Float) (i : ℕ) → i ≤ length x → length (first_bytes x i) ≡ 8 * i
first_length x i h = bytes-length (map to_word (take i x)) ∙ ap (λ (k : ℕ). 8 * k) (length-map (take i x) to_word ∙ length-take-le i x h)

first_more : (x : List Float) (i : ℕ) (d : Float) → i < length x → first_bytes x (i + 1) ≡ first_bytes x i ++ bytes_of 8 (to_word (get_or x i d))
unfolding bytes
first_more x i d h =
    let w = to_word (get_or x i d) in
    ap (λ (l : List Float). bytes (map to_word l)) (ap (λ (k : ℕ). take k x) (add-one i) ∙ take-suc x i d h)
    ∙ ap bytes (map-append to_word (take i x) (get_or x i d ∷ []))
    ∙ bytes-append (map to_word (take i x)) (w ∷ [])
    ∙ ap (λ (b : List ℕ). first_bytes x i ++ b) (append-nil (bytes_of 8 w))

pub record Putting (x : List Float) (n : ℕ) (out₀ out : List ℕ) (i : ℕ) : Type 0 where
  pub reach : i ≤ n
  pub size : n ≤ length x
  pub room : 8 * n ≤ length out₀
  pub long : length out ≡ length out₀
  pub is : out ≡ first_bytes x i ++ drop (8 * i) out₀

pub putting_none : (x : List Float) (n : ℕ) (out : List ℕ) → n ≤ length x → 8 * n ≤ length out → Putting x n out out 0
unfolding bytes
putting_none x n out h k = record { reach = omega arith; size = h; room = k; long = refl; is = refl }

pub putting_more : {x : List Float} {n : ℕ} {out₀ out out' : List ℕ} {i w : ℕ} (d : Float) → Putting x n out₀ out i → i < n → w ≡ to_word (get_or x i d)
    → out' ≡ take (8 * i) out ++ bytes_of 8 w ++ drop (8 * i + 8) out → Putting x n out₀ out' (i + 1)
putting_more {x} {n} {out₀} {out} {out'} {i} {w} d h l e f =
    let next : 8 * i + 8 ≡ 8 * (i + 1) = omega arith in
    let front = first_length x i (omega (arith, h.size)) in
    let is : out' ≡ first_bytes x (i + 1) ++ drop (8 * (i + 1)) out₀
    = f
    ∙ words-put out₀ out 0 (8 * i) (first_bytes x i) w (omega (arith, front)) (omega (arith, h.room)) h.is
    ∙ ap (λ (v : ℕ). (first_bytes x i ++ bytes_of 8 v) ++ drop (8 * i + 8) out₀) e
    ∙ ap₂ (λ (b : List ℕ) (k : ℕ). b ++ drop k out₀) (sym (first_more x i d (omega (arith, h.size)))) next in
    let whole = length-append (first_bytes x (i + 1)) (drop (8 * (i + 1)) out₀) in
    record {
      reach = omega arith;
      size = h.size;
      room = h.room;
      long = ap length is ∙ omega (arith, whole, first_length x (i + 1) (omega (arith, h.size)), length-drop (8 * (i + 1)) out₀, h.room);
      is = is;
    }

pub putting_done : {x : List Float} {n : ℕ} {out₀ out : List ℕ} {i : ℕ} → Putting x n out₀ out i → n ≤ i → out ≡ written (first_bytes x n) out₀
putting_done {x} {n} {out₀} {out} {i} h l =
    let all : i ≡ n = omega (arith, h.reach) in
    h.is
    ∙ ap (λ (k : ℕ). first_bytes x k ++ drop (8 * k) out₀) all
    ∙ ap (λ (k : ℕ). first_bytes x n ++ drop k out₀) (sym (first_length x n h.size))

pub ruleset laws = (rules, putting_more, putting_done)
