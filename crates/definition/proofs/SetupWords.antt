-- A setup in words: an accepted one of binary64 floats comes back from its words, and each of them is below 2 ^ 64. Assumes nothing.
use Prim.Native.Nat.{ℕ, ◌+◌, ◌*◌, ◌/◌, ◌%◌, ◌≤◌, ◌<◌}
use native.Mathlib.Omega.{arith}
use mathlib.Core.Path.{◌≡◌, refl, sym, ap, ap₂, ◌∙◌, subst}
use mathlib.Core.Bool.{Bool, not, false≢true}
use mathlib.Core.List.{List, [], ◌∷◌, ◌++◌, map, append_assoc}
use Rattle.std.specs.Prelude.{Option, None, Some}
use lib.Dec.{T}
use lib.ListN.{length, take, length-append, length-map}
use lib.Seq.{take_at, drop_at}
use lib.Ieee.{Float, binary64, is_nan, of_bits}
use lib.Ieee.Bits.{is_false, of_bits-to_bits, to_bits-of_bits, to_bits-lt}
use lib.Ieee.Scale.{finite}
use borrow.Author.Tests.{ne_eqb}
use Rattle.definition.specs.Number.{to_float, to_word}
use Rattle.definition.specs.Problem.{Setup, Bounds, Scheme, most_budget, most_coordinates, most_pairs, dimension, or_else}
use Rattle.definition.specs.Record.{absent, optional_float, box_flag, scheme_flag, bound_words, shape_word, setup_words, float_given}
use Rattle.definition.specs.Record.{count_given, n_in, maxcor_in, setup_length, floats_at, bounds_in, scheme_in, setup_in, word_size}
use Rattle.definition.specs.Replies.{Accepted}
use Rattle.definition.specs.Values.{Each, Given, Words, Binary64, BoxFloats, SetupFloats}
use Rattle.definition.proofs.Tests.{holds}
use Rattle.definition.proofs.Finite.{finite_not_nan}
use Rattle.definition.proofs.Lists.{each_join, each_map}
use Rattle.definition.proofs.Accepted.{Finite, Plain, Sides, Count, Passed, accepted_passed}

-- ---- floats

pub finite_plain : (x : Float) → Finite x → Plain x
finite_plain x h = is_false (is_nan x) (finite_not_nan x (holds h))

pub word_back : (w : ℕ) → w < word_size → Plain (to_float w) → to_word (to_float w) ≡ w
word_back w h p = to_bits-of_bits binary64 w h (subst (λ (t : Bool). T (not t)) (sym p) tt)

floats_back : (xs : List Float) → Each Binary64 xs → map to_float (map to_word xs) ≡ xs
floats_back [] h = refl
floats_back (x ∷ xs) h = ap₂ (λ (v : Float) (vs : List Float). v ∷ vs) (of_bits-to_bits binary64 x h.0) (floats_back xs h.1)

floats_words : (xs : List Float) → Each Binary64 xs → Words (map to_word xs)
floats_words xs h = each_map Binary64 (λ w. w < word_size) to_word xs (to_bits-lt binary64) h

-- ---- a float or a count that may be absent

-- the mark for none is a NaN, which no accepted option is
not_absent : (v : Float) → Binary64 v → Finite v → to_word v ≡ absent → ⊥
unfolding of_bits
not_absent v b f e =
    let w : v ≡ to_float absent = sym (of_bits-to_bits binary64 v b) ∙ ap to_float e in
    false≢true (sym (ap finite w) ∙ f)

option_back : (o : Option Float) → Given Binary64 o → Given Finite o → float_given (optional_float o) ≡ o
option_back None b f = refl
option_back (Some v) b f = rw (ne_eqb (to_word v) absent (not_absent v b f), of_bits-to_bits binary64 v b)

option_word : (o : Option Float) → Given Binary64 o → optional_float o < word_size
option_word None b = omega arith
option_word (Some v) b = to_bits-lt binary64 v b

count_back_lem : (limit : ℕ) (o : Option ℕ) → Given (Count limit) o → count_given (or_else o 0) ≡ o
count_back_lem limit None h = refl
count_back_lem limit (Some k) h = rw (ne_eqb k 0 (λ e. omega (arith, h.0)))

count_most : (limit : ℕ) (o : Option ℕ) → Given (Count limit) o → or_else o 0 ≤ limit
count_most limit None h = omega arith
count_most limit (Some k) h = h.1

-- ---- word 0

-- n, maxcor, box and Central of a word
record Shape (w n c b q : ℕ) : Type 0 where
  n_in_lem : n_in w ≡ n
  c_in : maxcor_in w ≡ c
  b_in : w / 65536 % 2 ≡ b
  q_in : w / 131072 % 2 ≡ q
  small : w < 262144

shape_of : (n c b q : ℕ) → n < 256 → c < 256 → b < 2 → q < 2 → Shape (n + 256 * c + 65536 * (b + 2 * q)) n c b q
shape_of n c b q hn hc hb hq = record { n_in_lem = omega arith; c_in = omega arith; b_in = omega arith; q_in = omega arith; small = omega arith }

abbrev central_bit : Scheme → ℕ
central_bit Scheme.forward = 0
central_bit Scheme.central = 1

flag_is : (q : Scheme) → scheme_flag q ≡ 2 * central_bit q
flag_is Scheme.forward = refl
flag_is Scheme.central = refl

central_below : (q : Scheme) → central_bit q < 2
central_below Scheme.forward = omega arith
central_below Scheme.central = omega arith

box_below : (o : Option Bounds) → box_flag o < 2
box_below None = omega arith
box_below (Some b) = omega arith

shape_is : (s : Setup) → Passed s → Shape (shape_word s) (dimension s) (or_else s.maxcor 0) (box_flag s.bounds) (central_bit s.scheme)
shape_is s p =
    rw (flag_is s.scheme)
    (shape_of (dimension s) (or_else s.maxcor 0) (box_flag s.bounds) (central_bit s.scheme) (omega (arith, p.size.1))
    (omega (arith, count_most most_pairs s.maxcor p.maxcor))
    (box_below s.bounds) (central_below s.scheme))

scheme_back_lem : (w : ℕ) (q : Scheme) → w / 131072 % 2 ≡ central_bit q → scheme_in w ≡ q
scheme_back_lem w Scheme.forward e = rw e
scheme_back_lem w Scheme.central e = rw e

-- ---- a setup from its words

floats_at_lem : (pre post : List ℕ) (xs : List Float) (k n : ℕ) → length pre ≡ k → length xs ≡ n → Each Binary64 xs
    → floats_at (pre ++ (map to_word xs ++ post)) k n ≡ xs
floats_at_lem pre post xs k n a b f =
    rw (drop_at pre (map to_word xs ++ post) k a, take_at (map to_word xs) post n (length-map xs to_word ∙ b)) (floats_back xs f)

bounds_back : (pre log : List ℕ) (o : Option Bounds) (w n : ℕ) → length pre ≡ 7 + n → n_in w ≡ n → w / 65536 % 2 ≡ box_flag o → Given (Sides n) o
    → Given BoxFloats o
    → bounds_in (pre ++ (bound_words o ++ log)) w ≡ o
bounds_back pre log None w n a r e h f = rw e
bounds_back pre log (Some b) w n a r e h f =
    let lower = map to_word b.lower in
    let upper = map to_word b.upper in
    let split = append_assoc lower upper log in
    let low : floats_at (pre ++ (lower ++ upper ++ log)) (7 + n) n ≡ b.lower
    = rw split (floats_at_lem pre (upper ++ log) b.lower (7 + n) n a h.lower.size f.0) in
    let high : floats_at (pre ++ (lower ++ upper ++ log)) (7 + 2 * n) n ≡ b.upper
    = rw (split, ← (append_assoc pre lower (upper ++ log)))
    (floats_at_lem (pre ++ lower) log b.upper (7 + 2 * n) n (omega (arith, length-append pre lower, length-map b.lower to_word, h.lower.size))
    h.upper.size f.1) in
    rw (e, r) (ap₂ (λ (x y : List Float). Some (record { lower = x; upper = y })) low high)

module _ (s : Setup) (log : List ℕ) (a : Accepted s) (f : SetupFloats s) where
  pub setup_back : setup_in (setup_words s ++ log) ≡ s
  unfolding setup_in setup_words
  setup_back =
      let p = accepted_passed s a in
      let w = shape_word s in
      let h = shape_is s p in
      let all = setup_words s ++ log in
      let seven = take 7 (setup_words s) in
      let xs = map to_word s.x0 in
      let split = append_assoc xs (bound_words s.bounds) log in
      let x0 : floats_at all 7 (n_in w) ≡ s.x0
      = rw split (floats_at_lem seven (bound_words s.bounds ++ log) s.x0 7 (n_in w) refl (sym h.n_in_lem) f.x0) in
      let bounds : bounds_in all w ≡ s.bounds
      = rw split
      (bounds_back (seven ++ xs) log s.bounds w (dimension s) (omega (arith, length-map s.x0 to_word)) h.n_in_lem h.b_in p.bounds f.bounds) in
      let maxiter = count_back_lem most_budget s.maxiter p.maxiter in
      let maxfev = count_back_lem most_budget s.maxfev p.maxfev in
      let tol = option_back s.tol f.tol p.tol in
      let ftol = option_back s.ftol f.ftol p.ftol in
      let gtol = option_back s.gtol f.gtol p.gtol in
      let maxcor : count_given (maxcor_in w) ≡ s.maxcor = ap count_given h.c_in ∙ count_back_lem most_pairs s.maxcor p.maxcor in
      let eps = option_back s.eps f.eps p.eps in
      let scheme = scheme_back_lem w s.scheme h.q_in in
      λ i. record {
        x0 = x0 i;
        bounds = bounds i;
        maxiter = maxiter i;
        maxfev = maxfev i;
        tol = tol i;
        ftol = ftol i;
        gtol = gtol i;
        maxcor = maxcor i;
        eps = eps i;
        scheme = scheme i;
      }

-- ---- its words: how many, and each below 2 ^ 64

bounds_length : (n : ℕ) (o : Option Bounds) → Given (Sides n) o → length (bound_words o) ≡ box_flag o * (2 * n)
bounds_length n None h = omega arith
bounds_length n (Some b) h =
    omega (
      arith,
      length-append (map to_word b.lower) (map to_word b.upper),
      length-map b.lower to_word,
      length-map b.upper to_word,
      h.lower.size,
      h.upper.size,
    )

length_in : (o : Option Bounds) (w n : ℕ) → n_in w ≡ n → w / 65536 % 2 ≡ box_flag o → setup_length w ≡ 7 + n + box_flag o * (2 * n)
length_in None w n r e = rw (e, r) (omega arith)
length_in (Some b) w n r e = rw (e, r) (omega arith)

box_most : (o : Option Bounds) (n : ℕ) → box_flag o * (2 * n) ≤ 2 * n
box_most None n = omega arith
box_most (Some b) n = omega arith

bounds_words : (o : Option Bounds) → Given BoxFloats o → Words (bound_words o)
bounds_words None f = tt
bounds_words (Some b) f = each_join _ (map to_word b.lower) (map to_word b.upper) (floats_words b.lower f.0) (floats_words b.upper f.1)

module _ (s : Setup) (a : Accepted s) where
  pub shape_small : shape_word s < 262144
  shape_small = (shape_is s (accepted_passed s a)).small

  pub setup_length_lem : length (setup_words s) ≡ 7 + dimension s + box_flag s.bounds * (2 * dimension s)
  unfolding setup_words
  setup_length_lem =
      let box = bounds_length (dimension s) s.bounds (accepted_passed s a).bounds in
      omega (arith, box, length-append (map to_word s.x0) (bound_words s.bounds), length-map s.x0 to_word)

  -- as word 0 says
  pub length_read : setup_length (shape_word s) ≡ length (setup_words s)
  length_read =
      let h = shape_is s (accepted_passed s a) in
      length_in s.bounds (shape_word s) (dimension s) h.n_in_lem h.b_in ∙ sym setup_length_lem

  pub setup_most : length (setup_words s) ≤ 7 + 3 * most_coordinates
  setup_most = omega (arith, setup_length_lem, box_most s.bounds (dimension s), (accepted_passed s a).size.1)

  pub setup_words_fit : SetupFloats s → Words (setup_words s)
  unfolding setup_words
  setup_words_fit f =
      let p = accepted_passed s a in
      let points = each_join _ (map to_word s.x0) (bound_words s.bounds) (floats_words s.x0 f.x0) (bounds_words s.bounds f.bounds) in
      let shape : shape_word s < word_size = omega (arith, shape_small) in
      let iterations : or_else s.maxiter 0 < word_size = omega (arith, count_most most_budget s.maxiter p.maxiter) in
      let values : or_else s.maxfev 0 < word_size = omega (arith, count_most most_budget s.maxfev p.maxfev) in
      let tol = option_word s.tol f.tol in
      let ftol = option_word s.ftol f.ftol in
      let gtol = option_word s.gtol f.gtol in
      let eps = option_word s.eps f.eps in
      (shape, (iterations, (values, (tol, (ftol, (gtol, (eps, points)))))))
