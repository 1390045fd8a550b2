-- Laws of reading: words by number, where a record stands, and what each check ahead of the entries makes of the definition's reading. Assumes nothing.
use Rattle.std.proofs.Common.{◌≡◌, ℕ, zero, suc, ◌+◌, ◌-◌, ◌*◌, ◌/◌, ◌<◌, ◌≤◌, Bool, true, false, cond, not, ◌&&◌, eqb, ltb, leb, List, ◌∷◌, length}
use Rattle.std.proofs.Common.{get_or, take, drop, sym, refl, ap, ◌∙◌, ap₂, arith, length-drop, length-take-le, drop-drop, ltb-false, le-ltb, lt-ltb, eq-eqb}
use Rattle.std.proofs.Common.{ne_eqb, le-leb, leb-false, leb-true}
use Rattle.std.specs.Prelude.{None, Some, Err}
use borrow.Author.Tests.{lt-leb, not-true}
use lib.ListN.{length-map, get_or-eq_default}
use Rattle.std.proofs.lemmas.List.{take-take, drop-take}
use lib.Ieee.{Float}
use Rattle.definition.specs.Number.{to_float}
use Rattle.definition.specs.Problem.{validate, ◌then◌, area_needed}
use Rattle.definition.specs.Log.{entries_of}
use Rattle.definition.specs.Record.{number_of, words_of, sums, framed, malformed, n_in, has_box, setup_length, floats_at, setup_in, check_area}
use Rattle.definition.specs.Record.{check_words, unless_refused, Reading, reading_of, read_words, read_record, Lengths, plain_refusal}
use Rattle.definition.proofs.Tests.{both_true, both_false}
use Rattle.definition.proofs.Bytes.{words_of-length}
use Rattle.definition.proofs.Accepted.{both_passed, test_failed, accepted_in_limits}
use Rattle.problem.specs.Setups as P
use Rattle.problem.specs.Setups.{refusal_of}
use Rattle.problem.specs.declared.Options.{Options}
use Rattle.problem.specs.declared.Refusal.{Refusal}
use Rattle.problem.specs.declared.Refusal.TheVariants as Q
use Rattle.record.specs.declared.Frame.{Frame}
use Rattle.record.specs.Records.{trailer_in, framed_in, all_words, words_in, bytes_ahead, Counted, Placed, sums_agree}
use Rattle.record.specs.Records.{OptionsIn, setup_by, lengths, Opens, Parsing}

-- ---- words by number

pub word-get : (k i : ℕ) (bs : List ℕ) → i < k → get_or (words_of k bs) i 0 ≡ number_of (take 8 (drop (8 * i) bs))
unfolding words_of
word-get zero i bs h = absurd (omega arith)
word-get (suc k) zero bs h = refl
word-get (suc k) (suc i) bs h =
    let e : 8 + 8 * i ≡ 8 * suc i = omega arith in
    word-get k i (drop 8 bs) (omega arith) ∙ ap (λ (l : List ℕ). number_of (take 8 l)) (drop-drop (8 * i) 8 bs ∙ ap (λ (j : ℕ). drop j bs) e)

pub word_past : (k i : ℕ) (bs : List ℕ) → k ≤ i → 0 ≡ get_or (words_of k bs) i 0
word_past k i bs h = sym (get_or-eq_default (words_of k bs) 0 (omega (arith, words_of-length k bs)))

-- word i from the byte `at` on
pub word_from : (bs : List ℕ) (at k i : ℕ) → i < k → number_of (take 8 (drop (at + 8 * i) bs)) ≡ get_or (words_of k (drop at bs)) i 0
word_from bs at k i h = sym (word-get k i (drop at bs) h ∙ ap (λ (l : List ℕ). number_of (take 8 l)) (drop-drop (8 * i) at bs))

pub word_within : (bs : List ℕ) (i : ℕ) → i < length bs / 8 → number_of (take 8 (drop (8 * i) bs)) ≡ get_or (all_words bs) i 0
word_within bs i h = sym (word-get (length bs / 8) i bs h)

pub words_take : (j k : ℕ) (bs : List ℕ) → j ≤ k → take j (words_of k bs) ≡ words_of j bs
unfolding words_of
words_take zero k bs h = refl
words_take (suc j) zero bs h = absurd (omega arith)
words_take (suc j) (suc k) bs h = ap (λ (l : List ℕ). number_of (take 8 bs) ∷ l) (words_take j k (drop 8 bs) (omega arith))

pub words-drop : (j k : ℕ) (bs : List ℕ) → j ≤ k → drop j (words_of k bs) ≡ words_of (k - j) (drop (8 * j) bs)
unfolding words_of
words-drop zero k bs h = let e : k ≡ k - 0 = omega arith in ap (λ (n : ℕ). words_of n bs) e
words-drop (suc j) zero bs h = absurd (omega arith)
words-drop (suc j) (suc k) bs h =
    let e : 8 + 8 * j ≡ 8 * suc j = omega arith in
    let f : k - j ≡ suc k - suc j = omega arith in
    words-drop j k (drop 8 bs) (omega arith) ∙ ap₂ (λ (n : ℕ) (l : List ℕ). words_of n l) f (drop-drop (8 * j) 8 bs ∙ ap (λ (i : ℕ). drop i bs) e)

-- words of a part that has just as many
words_front : (n : ℕ) (bs : List ℕ) → words_of n (take (8 * n) bs) ≡ words_of n bs
unfolding words_of
words_front zero bs = refl
words_front (suc n) bs =
    let e : 8 * suc n ≡ 8 + 8 * n = omega arith in
    let front : take 8 (take (8 + 8 * n) bs) ≡ take 8 bs = take-take 8 (8 + 8 * n) bs (omega arith) in
    let rest : drop 8 (take (8 + 8 * n) bs) ≡ take (8 * n) (drop 8 bs) = drop-take 8 (8 * n) bs in
    rw (e, front, rest) (ap (λ (ws : List ℕ). number_of (take 8 bs) ∷ ws) (words_front n (drop 8 bs)))

words_lent : (bs : List ℕ) (n : ℕ) → 8 * n ≤ length bs → all_words (take (8 * n) bs) ≡ words_of n bs
words_lent bs n h =
    let long : length (take (8 * n) bs) ≡ 8 * n = length-take-le (8 * n) bs h in
    let count : length (take (8 * n) bs) / 8 ≡ n = omega arith in
    rw count (words_front n bs)

-- the words from number j on are those of the bytes behind
pub words_rest : (bs : List ℕ) (j : ℕ) → j ≤ length (all_words bs) → drop j (all_words bs) ≡ all_words (drop (8 * j) bs)
words_rest bs j h =
    let long : length (all_words bs) ≡ length bs / 8 = words_of-length (length bs / 8) bs in
    let size : length (drop (8 * j) bs) ≡ length bs - 8 * j = length-drop (8 * j) bs in
    let count : length bs / 8 - j ≡ length (drop (8 * j) bs) / 8 = omega (arith, size, long, h) in
    words-drop j (length bs / 8) bs (omega (arith, long, h)) ∙ ap (λ (k : ℕ). words_of k (drop (8 * j) bs)) count

-- ---- the trailer

-- word k of the trailer, which stands at byte j
pub trailer_word : (bs : List ℕ) (k j w : ℕ) → 32 ≤ length bs → k < 4 → j + 32 ≡ length bs + 8 * k → w ≡ number_of (take 8 (drop j bs))
    → w ≡ get_or (trailer_in bs) k 0
trailer_word bs k j w h l e f =
    let at : j ≡ length bs - 32 + 8 * k = omega arith in
    f ∙ ap (λ (i : ℕ). number_of (take 8 (drop i bs))) at ∙ word_from bs (length bs - 32) 4 k l

module _ (bs : List ℕ) (h : 32 ≤ length bs) where
  pub version_other : (v j : ℕ) → j + 16 ≡ length bs → v ≡ number_of (take 8 (drop j bs)) → (v ≡ 1 → ⊥) → false ≡ framed_in bs
  version_other v j at e n =
      let long : ltb (length bs) 32 ≡ false = le-ltb (length bs) 32 h in
      let w = trailer_word bs 2 j v h (omega arith) (omega arith) e in
      let other : eqb (get_or (trailer_in bs) 2 0) 1 ≡ false = rw w at (ne_eqb v 1 n) in
      rw (long, other)

  pub framed_by : (v j c k : ℕ) → j + 16 ≡ length bs → k + 8 ≡ length bs → v ≡ number_of (take 8 (drop j bs)) → v ≡ 1
      → c ≡ number_of (take 8 (drop k bs)) → leb c ((length bs - 32) / 8) ≡ framed_in bs
  framed_by v j c k at at' e one f =
      let long : ltb (length bs) 32 ≡ false = le-ltb (length bs) 32 h in
      let w = trailer_word bs 2 j v h (omega arith) (omega arith) e in
      let known : eqb (get_or (trailer_in bs) 2 0) 1 ≡ true = rw w at (eq-eqb v 1 one) in
      let d = trailer_word bs 3 k c h (omega arith) (omega arith) f in
      rw (long, known, ← d) (eighths c (length bs - 32))
    where
      eighths : (c n : ℕ) → leb c (n / 8) ≡ leb (8 * c) n
      eighths c n = go (leb (8 * c) n) refl
        where
          go : (t : Bool) → leb (8 * c) n ≡ t → leb c (n / 8) ≡ t
          go true e = le-leb c (n / 8) (omega (arith, leb-true (8 * c) n e))
          go false e = lt-leb c (n / 8) (omega (arith, leb-false (8 * c) n e))

pub too_short : (bs : List ℕ) → length bs < 32 → false ≡ framed_in bs
too_short bs h = rw (lt-ltb (length bs) 32 h)

-- what a frame says
pub record Fitting (bs : List ℕ) : Type 0 where
  pub long : 32 ≤ length bs
  pub known : framed (length bs) (trailer_in bs) ≡ true
  pub room : 8 * get_or (trailer_in bs) 3 0 ≤ length bs - 32

pub framed_fits : (bs : List ℕ) → framed_in bs ≡ true → Fitting bs
framed_fits bs e =
    let a = both_true (not (ltb (length bs) 32)) (framed (length bs) (trailer_in bs)) e in
    let b = both_true (eqb (get_or (trailer_in bs) 2 0) 1) (leb (8 * get_or (trailer_in bs) 3 0) (length bs - 32)) a.1 in
    record {
      long = ltb-false (length bs) 32 (true_not (ltb (length bs) 32) a.0);
      known = a.1;
      room = leb-true (8 * get_or (trailer_in bs) 3 0) (length bs - 32) b.1;
    }
  where
    true_not : (t : Bool) → not t ≡ true → t ≡ false
    true_not t e = not-true t e

-- the trailer's count leaves room for itself
pub count_fits : (bs : List ℕ) (j c : ℕ) → framed_in bs ≡ true → j + 8 ≡ length bs → c ≡ number_of (take 8 (drop j bs)) → 8 * c + 32 ≤ length bs
count_fits bs j c h at e =
    let k = framed_fits bs h in
    let same = trailer_word bs 3 j c k.long (omega arith) (omega (arith, k.long)) e in
    omega (arith, k.long, k.room)

-- the bytes lent for as many words as the trailer says
pub bytes_lent : (bs : List ℕ) (j c : ℕ) → framed_in bs ≡ true → j + 8 ≡ length bs → c ≡ number_of (take 8 (drop j bs))
    → take (length bs - 32 - (length bs - 32 - 8 * c)) (drop (length bs - 32 - 8 * c) bs) ≡ bytes_ahead bs
bytes_lent bs j c h at e =
    let k = framed_fits bs h in
    let fits = count_fits bs j c h at e in
    let size : length bs - 32 - (length bs - 32 - 8 * c) ≡ 8 * c = omega (arith, fits) in
    let same = trailer_word bs 3 j c k.long (omega arith) (omega (arith, k.long)) e in
    ap (λ (i : ℕ). take i (drop (length bs - 32 - 8 * c) bs)) size
    ∙ ap (λ (i : ℕ). take (8 * i) (drop (length bs - 32 - 8 * i) bs)) same

-- ---- the sums

module _ (bs : List ℕ) (f : Frame) (h : 32 ≤ length bs) where
  pub plain_differs : (p v : ℕ) → p ≡ (sums (words_in f)).plain → v ≡ number_of (take 8 (drop (length bs - 32) bs)) → (p ≡ v → ⊥) → false ≡ sums_agree bs f
  plain_differs p v e g n =
      let w = trailer_word bs 0 (length bs - 32) v h (omega arith) (omega arith) g in
      rw (← w, ← e, ne_eqb p v n)

  pub running_tells : (p q v w : ℕ) → p ≡ (sums (words_in f)).plain → q ≡ (sums (words_in f)).running
      → v ≡ number_of (take 8 (drop (length bs - 32) bs)) → w ≡ number_of (take 8 (drop (length bs - 32 + 8) bs)) → p ≡ v → eqb q w ≡ sums_agree bs f
  running_tells p q v w e d g k same =
      let a = trailer_word bs 0 (length bs - 32) v h (omega arith) (omega arith) g in
      let b = trailer_word bs 1 (length bs - 32 + 8) w h (omega arith) (omega arith) k in
      rw (← a, ← b, ← e, ← d, eq-eqb p v same)

-- ---- the form

module _ (f : Frame) (h : Counted f) where
  pub form_whole : malformed (words_in f) ≡ false → f.setup ≤ length (words_in f)
  form_whole e =
      let l = ltb-false (length (words_in f)) (setup_length (get_or (words_in f) 0 0))
      (both_false (ltb (length (words_in f)) (setup_length (get_or (words_in f) 0 0))) _ e).0 in
      omega (arith, l, h.setup)

-- ---- the definition's reading, check by check

pub unframed : (bs : List ℕ) (area : ℕ) → framed_in bs ≡ false → Parsing bs area (Err Q.Malformed)
unfolding read_record
unframed bs area e room = go (ltb (length bs) 32) (framed (length bs) (trailer_in bs)) _ e
  where
    go : (s t : Bool) (r : Reading) → (not s && t) ≡ false
        → cond s (Reading.refused (plain_refusal 17)) (cond t r (Reading.refused (plain_refusal 17))) ≡ Reading.refused (plain_refusal 17)
    go true t r e = refl
    go false false r e = refl
    go false true r e = cc

module _ (bs : List ℕ) (f : Frame) (h : framed_in bs ≡ true) (p : Placed bs f) where
  words_ahead : words_in f ≡ words_of (get_or (trailer_in bs) 3 0) (drop (length bs - 32 - 8 * get_or (trailer_in bs) 3 0) bs)
  words_ahead =
      let k = framed_fits bs h in
      let c = get_or (trailer_in bs) 3 0 in
      let at = length bs - 32 - 8 * c in
      ap all_words p.bytes ∙ words_lent (drop at bs) c (omega (arith, k.long, k.room, length-drop at bs))

  read_words_lem : (z : Lengths) → read_record z bs ≡ read_words z (words_in f) (get_or (trailer_in bs) 0 0) (get_or (trailer_in bs) 1 0)
  unfolding read_record
  read_words_lem z =
      let k = framed_fits bs h in
      rw (words_ahead, le-ltb (length bs) 32 k.long, k.known)

  pub sums_refused : (area : ℕ) → sums_agree bs f ≡ false → Parsing bs area (Err Q.SumsDiffer)
  unfolding read_words check_words
  sums_refused area s room = read_words_lem (lengths area room) ∙ rw s

  pub form_refused : (area : ℕ) → sums_agree bs f ≡ true → malformed (words_in f) ≡ true → Parsing bs area (Err Q.Malformed)
  unfolding read_words check_words
  form_refused area s m room = read_words_lem (lengths area room) ∙ rw (s, m)

-- ---- the setup by options and vectors

-- a box where the flag says so
box_by : (t : Bool) (l u : List Float) → cond t (Some (P.box_of l u)) None ≡ P.bounds_in t l u
box_by true l u = refl
box_by false l u = refl

pub options_setup : (ws : List ℕ) (o : Options) → OptionsIn ws o → setup_in ws ≡ setup_by ws o (n_in (get_or ws 0 0))
unfolding setup_in
options_setup ws o h =
    rw (
      h.bounded,
      h.maxiter,
      h.maxfev,
      h.tol,
      h.ftol,
      h.gtol,
      h.maxcor,
      h.eps,
      h.scheme,
      ← (box_by (has_box (get_or ws 0 0)) (floats_at ws (7 + n_in (get_or ws 0 0)) (n_in (get_or ws 0 0)))
          (floats_at ws (7 + 2 * n_in (get_or ws 0 0)) (n_in (get_or ws 0 0)))),
    )

-- as many coordinates as word 0 says
setup_vectors : (f : Frame) → Counted f → f.setup ≤ length (words_in f) → length (setup_in (words_in f)).x0 ≡ f.n
unfolding setup_in
setup_vectors f h l =
    let ws = words_in f in
    let n = n_in (get_or ws 0 0) in
    let enough = at_least (has_box (get_or ws 0 0)) n f.setup h.setup in
    length-map (take n (drop 7 ws)) to_float ∙ length-take-le n (drop 7 ws) (omega (arith, length-drop 7 ws)) ∙ sym h.n
  where
    at_least : (t : Bool) (n m : ℕ) → m ≡ 7 + cond t (3 * n) n → 7 + n ≤ m
    at_least true n m h = omega arith
    at_least false n m h = omega arith

-- ---- sums and form are right: the setup's rows, then the area

module _ (bs : List ℕ) (f : Frame) (h : framed_in bs ≡ true) (p : Placed bs f) (s : sums_agree bs f ≡ true) (m : malformed (words_in f) ≡ false) where
  formed_reads : (z : Lengths) → read_record z bs
      ≡ unless_refused (validate (setup_in (words_in f)) then check_area z (setup_in (words_in f)))
      (reading_of (setup_in (words_in f)) (entries_of (setup_in (words_in f)) z.log (drop f.setup (words_in f))))
  unfolding read_words check_words
  formed_reads z = read_words_lem bs f h p z ∙ rw (s, m, ← p.counted.setup)

  pub setup_refused : (area : ℕ) (c : Refusal)
      → ((room : ℕ) → Some (refusal_of c) ≡ (validate (setup_in (words_in f)) then check_area (lengths area room) (setup_in (words_in f))))
      → Parsing bs area (Err c)
  setup_refused area c e room = formed_reads (lengths area room) ∙ rw (← (e room))

  pub opens : (area : ℕ) (o : Options) → OptionsIn (words_in f) o
      → ((room : ℕ) → None ≡ (validate (setup_in (words_in f)) then check_area (lengths area room) (setup_in (words_in f)))) → Opens bs area o f
  opens area o same e =
      let t = setup_in (words_in f) in
      let whole = form_whole f p.counted m in
      let fits = setup_vectors f p.counted whole in
      let passed = both_passed (validate t) (check_area (lengths area 0) t) (sym (e 0)) in
      record {
        placed = p;
        whole = whole;
        most = omega (arith, (accepted_in_limits t passed.0).coordinates.1, fits);
        options = same;
        same = rw p.counted.n (options_setup (words_in f) o same);
        accepted = passed.0;
        room = ltb-false area (area_needed t) (test_failed (ltb area (area_needed t)) _ passed.1);
        reads = λ room. formed_reads (lengths area room) ∙ rw (← (e room));
      }
