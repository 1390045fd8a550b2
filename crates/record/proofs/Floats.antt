-- Laws of the array that holds a setup's vectors: how a loop fills it, and which parts of it are which vector. Assumes nothing.
use Rattle.std.proofs.Common.{◌≡◌, ℕ, zero, suc, ◌+◌, ◌-◌, ◌*◌, ◌<◌, ◌≤◌, Bool, true, false, cond, List, [], ◌∷◌, ◌++◌, map, length, get_or, take, drop, set}
use Rattle.std.proofs.Common.{replicate, sym, refl, ap, ◌∙◌, ap₂, add-one, arith, length-drop, length-take-le, drop-drop}
use Rattle.std.proofs.lemmas.List.{map-append, take-map, drop-map, length-replicate, drop-replicate}
use lib.ListN.{length-map, length-set}
use lib.Seq.{take-append-le, drop-append-le, take_all, take-suc, take-set-le, get_or-set_same}
use borrow.Rule.Slice.PartMut.{post_of, mid_len}
use lib.Ieee.{Float}
use Rattle.definition.specs.Number.{to_float, zero64}
use Rattle.definition.specs.Record.{number_of, words_of, floats_at, has_box, setup_in}
use Rattle.definition.proofs.Bytes.{words_of-length}
use Rattle.problem.specs.Setups as P
use Rattle.problem.specs.declared.Options.{Options}
use Rattle.record.specs.declared.Frame.{Frame}
use Rattle.record.specs.Records.{words_in, most_floats, floats_of, setup_from, OptionsIn, Counted, Opens}
use Rattle.record.proofs.Reading.{words_take, words-drop, word-get, options_setup}

-- ---- lists

-- a part that lies within the first k
part_within : {A : Type 0} (j n k : ℕ) (l : List A) → j + n ≤ k → take n (drop j (take k l)) ≡ take n (drop j l)
part_within j zero k l h = refl
part_within j (suc n) zero l h = absurd (omega arith)
part_within zero (suc n) (suc k) [] h = refl
part_within zero (suc n) (suc k) (x ∷ l) h = ap (λ r. x ∷ r) (part_within zero n k l (omega arith))
part_within (suc j) (suc n) (suc k) [] h = refl
part_within (suc j) (suc n) (suc k) (x ∷ l) h = part_within j (suc n) k l (omega arith)

-- ---- the loop that fills the array: the first i of the places lent hold the floats of the words

pub record Filling (bs : List ℕ) (at count : ℕ) (b : List Float) (i : ℕ) : Type 0 where
  pub upto : i ≤ count
  pub long : length b ≡ count
  pub is : take i b ≡ map to_float (take i (words_of count (drop at bs)))

pub filling_more : {bs : List ℕ} {at count i w : ℕ} {b : List Float} {x : Float} → Filling bs at count b i → i < count
    → w ≡ number_of (take 8 (drop (at + 8 * i) bs)) → x ≡ to_float w → Filling bs at count (set b i x) (i + 1)
filling_more {bs} {at} {count} {i} {w} {b} {x} h l e f =
    let ws = words_of count (drop at bs) in
    let here : i < length b = omega (arith, h.long) in
    let word : w ≡ get_or ws i 0
    = e ∙ ap (λ (r : List ℕ). number_of (take 8 r)) (sym (drop-drop (8 * i) at bs)) ∙ sym (word-get count i (drop at bs) l) in
    record {
      upto = omega arith;
      long = length-set b i x ∙ h.long;
      is =
          rw add-one
          (take-suc (set b i x) i zero64 (omega (arith, length-set b i x))
          ∙ ap₂ (λ (r : List Float) (v : Float). r ++ (v ∷ [])) (take-set-le i b i x (omega arith) ∙ h.is)
          (get_or-set_same b i x zero64 here ∙ f ∙ ap to_float word)
          ∙ sym (map-append to_float (take i ws) (get_or ws i 0 ∷ []))
          ∙ ap (map to_float) (sym (take-suc ws i 0 (omega (arith, words_of-length count (drop at bs))))));
    }

module _ {bs : List ℕ} {at count : ℕ} (zeros : List Float) (e : zeros ≡ replicate most_floats zero64) (most : count ≤ most_floats) where
  pub filling_none : Filling bs at count (take (count - 0) (drop 0 zeros)) 0
  filling_none =
      let whole : count - 0 ≡ count = omega arith in
      let room : count ≤ length zeros = omega (arith, ap length e ∙ length-replicate most_floats zero64) in
      record { upto = omega arith; long = mid_len 0 count zeros room ∙ whole; is = refl }

  pub filling_done : {b : List Float} {i : ℕ} → Filling bs at count b i → count ≤ i → b ++ post_of 0 (count - 0) zeros ≡ floats_of (words_of count (drop at bs))
  unfolding floats_of
  filling_done {b} {i} h l =
      let ws = words_of count (drop at bs) in
      let size : length ws ≡ count = words_of-length count (drop at bs) in
      let all : b ≡ map to_float ws = sym (take_all i b (omega (arith, h.long))) ∙ h.is ∙ ap (map to_float) (take_all i ws (omega (arith, size))) in
      let whole : count - 0 ≡ length ws = omega (arith, size) in
      let rest : post_of 0 (count - 0) zeros ≡ replicate (most_floats - length ws) zero64 = rw (whole, e) (drop-replicate (length ws) most_floats zero64) in
      λ k. all k ++ rest k

-- ---- the vectors of a setup

-- words from the bytes of word 7 on
pub words_behind : (bs : List ℕ) (k j : ℕ) → 7 ≤ j → j ≤ k → words_of (j - 7) (drop 56 bs) ≡ take (j - 7) (drop 7 (words_of k bs))
words_behind bs k j h l =
    sym (ap (take (j - 7)) (words-drop 7 k bs (omega arith)) ∙ words_take (j - 7) (k - 7) (drop 56 bs) (omega arith))

-- n floats of the array from place j on are those of the words
pub floats_part : (ws : List ℕ) (j n : ℕ) → j + n ≤ length ws → take n (drop j (floats_of ws)) ≡ map to_float (take n (drop j ws))
unfolding floats_of
floats_part ws j n h =
    ap (take n) (drop-append-le j (map to_float ws) (replicate (most_floats - length ws) zero64) (omega (arith, length-map ws to_float))
    ∙ ap (λ (l : List Float). l ++ replicate (most_floats - length ws) zero64) (drop-map to_float j ws))
    ∙ take-append-le n (map to_float (drop j ws)) (replicate (most_floats - length ws) zero64)
    (omega (arith, length-map (drop j ws) to_float, length-drop j ws))
    ∙ take-map to_float n (drop j ws)

-- of a record's words, the part of the vectors' array is the part of the words
pub vector_part : (ws : List ℕ) (k j n : ℕ) → 7 + k ≤ length ws → j + n ≤ k → take n (drop j (floats_of (take k (drop 7 ws)))) ≡ floats_at ws (7 + j) n
vector_part ws k j n h l =
    floats_part (take k (drop 7 ws)) j n (omega (arith, length-take-le k (drop 7 ws) (omega (arith, length-drop 7 ws))))
    ∙ ap (map to_float) (part_within j n k (drop 7 ws) l ∙ ap (take n) (drop-drop j 7 ws))

bounds_same : (t : Bool) {l l' u u' : List Float} → (t ≡ true → l ≡ l') → (t ≡ true → u ≡ u') → P.bounds_in t l u ≡ P.bounds_in t l' u'
bounds_same true e f = ap₂ (λ (l u : List Float). P.bounds_in true l u) (e refl) (f refl)
bounds_same false e f = refl

setup_same : (o : Options) (x x' l l' u u' : List Float) → x ≡ x' → P.bounds_in o.bounded l u ≡ P.bounds_in o.bounded l' u'
    → P.setup_in o x l u ≡ P.setup_in o x' l' u'
setup_same o x x' l l' u u' e f = rw (e, f)

-- ---- a setup by the parts of the array

module _ (f : Frame) (h : Counted f) (whole : f.setup ≤ length (words_in f)) where
  abbrev laid : List Float
  laid = floats_of (take (f.setup - 7) (drop 7 (words_in f)))

  behind : f.setup - 7 ≡ cond (has_box (get_or (words_in f) 0 0)) (3 * f.n) f.n
  behind = rw h.n (omega (arith, h.setup))

  enough : 7 + (f.setup - 7) ≤ length (words_in f)
  enough = omega (arith, h.setup, whole)

  pub laid_start : take f.n laid ≡ floats_at (words_in f) 7 f.n
  laid_start = vector_part (words_in f) (f.setup - 7) 0 f.n enough (go (has_box (get_or (words_in f) 0 0)) (f.setup - 7) f.n behind)
    where
      go : (t : Bool) (k n : ℕ) → k ≡ cond t (3 * n) n → 0 + n ≤ k
      go true k n e = omega arith
      go false k n e = omega arith

  boxed : has_box (get_or (words_in f) 0 0) ≡ true → f.setup - 7 ≡ 3 * f.n
  boxed e = rw e at behind

  pub laid_lower : has_box (get_or (words_in f) 0 0) ≡ true → take f.n (drop f.n laid) ≡ floats_at (words_in f) (7 + f.n) f.n
  laid_lower e = vector_part (words_in f) (f.setup - 7) f.n f.n enough (omega (arith, boxed e))

  pub laid_upper : has_box (get_or (words_in f) 0 0) ≡ true → take f.n (drop (2 * f.n) laid) ≡ floats_at (words_in f) (7 + 2 * f.n) f.n
  laid_upper e = vector_part (words_in f) (f.setup - 7) (2 * f.n) f.n enough (omega (arith, boxed e))

  -- the options and the parts of the array make the setup
  pub laid_setup : (o : Options) → OptionsIn (words_in f) o → setup_from o laid f.n ≡ setup_in (words_in f)
  laid_setup o k =
      let same = rw (← h.n) at (options_setup (words_in f) o k) in
      setup_same o _ _ _ _ _ _ laid_start (bounds_same o.bounded (λ e. laid_lower (sym k.bounded ∙ e)) (λ e. laid_upper (sym k.bounded ∙ e)))
      ∙ sym same

  pub setup_most : f.setup ≤ 772
  setup_most = go (has_box (get_or (words_in f) 0 0)) _ _ (omega (arith, h.n)) h.setup
    where
      go : (t : Bool) (n m : ℕ) → n ≤ 255 → m ≡ 7 + cond t (3 * n) n → m ≤ 772
      go true n m l e = omega arith
      go false n m l e = omega arith

-- ---- a record that opens

module _ (bs : List ℕ) (area : ℕ) (o : Options) (f : Frame) (h : Opens bs area o f) where
  -- the parts of its array are the vectors of the setup
  pub opened_setup : setup_from o (floats_of (take (f.setup - 7) (drop 7 (words_in f)))) f.n ≡ setup_in (words_in f)
  opened_setup = laid_setup f h.placed.counted h.whole o h.options
