-- A setup read from words: its floats are those of binary64, and an accepted one has exactly those words. Assumes nothing.
use Prim.Native.Nat.{ℕ, zero, suc, ◌+◌, ◌*◌, ◌/◌, ◌%◌, ◌≤◌, ◌<◌}
use native.Mathlib.Omega.{arith}
use mathlib.Core.Path.{◌≡◌, refl, sym, ap, ap₂, ◌∙◌}
use mathlib.Core.Bool.{Bool, true, false, cond}
use mathlib.Core.List.{List, [], ◌∷◌, ◌++◌, map, append-nil}
use Rattle.std.specs.Prelude.{None, Some}
use lib.Dec.{eqb}
use lib.ListN.{length, get_or, take, drop, length-drop, length-map}
use lib.Seq.{take-add, drop-drop, length-take-le}
use lib.Ieee.{binary64}
use lib.Ieee.Bits.{of_bits-fits}
use borrow.Author.Tests.{eqb-true}
use Rattle.definition.specs.Number.{to_float, to_word}
use Rattle.definition.specs.Vector.{tab}
use Rattle.definition.specs.Problem.{Bounds, Scheme, or_else}
use Rattle.definition.specs.Record.{absent, optional_float, box_flag, scheme_flag, bound_words, shape_word, setup_words, float_given}
use Rattle.definition.specs.Record.{count_given, n_in, maxcor_in, has_box, setup_length, floats_at, setup_in, word_size}
use Rattle.definition.specs.Replies.{Accepted}
use Rattle.definition.specs.Values.{Each, Given, Words, Binary64, BoxFloats, SetupFloats}
use Rattle.definition.proofs.Lists.{each_at, each_so, each_take, each_drop}
use Rattle.definition.proofs.Accepted.{Finite, Plain, Sides, accepted_passed}
use Rattle.definition.proofs.SetupWords.{finite_plain, word_back}

-- ---- floats of binary64

floats_read : (ws : List ℕ) → Each Binary64 (map to_float ws)
floats_read [] = tt
floats_read (w ∷ ws) = (of_bits-fits binary64 w, floats_read ws)

option_read : (w : ℕ) → Given Binary64 (float_given w)
option_read w = go (eqb w absent)
  where
    go : (t : Bool) → Given Binary64 (cond t None (Some (to_float w)))
    go true = tt
    go false = of_bits-fits binary64 w

abbrev box_at : List ℕ → ℕ → Bounds
box_at ws n = record { lower = floats_at ws (7 + n) n; upper = floats_at ws (7 + 2 * n) n }

pub setup_read : (ws : List ℕ) → SetupFloats (setup_in ws)
unfolding setup_in
setup_read ws = record {
  x0 = floats_read (take (n_in (get_or ws 0 0)) (drop 7 ws));
  bounds = box (n_in (get_or ws 0 0)) (has_box (get_or ws 0 0));
  tol = option_read (get_or ws 3 0);
  ftol = option_read (get_or ws 4 0);
  gtol = option_read (get_or ws 5 0);
  eps = option_read (get_or ws 6 0);
}
  where
    box : (n : ℕ) (t : Bool) → Given BoxFloats (cond t (Some (box_at ws n)) None)
    box n true = (floats_read (take n (drop (7 + n) ws)), floats_read (take n (drop (7 + 2 * n) ws)))
    box n false = tt

-- ---- words of the parts

words_back : (ws : List ℕ) → Words ws → Each Plain (map to_float ws) → map to_word (map to_float ws) ≡ ws
words_back [] h p = refl
words_back (w ∷ ws) h p = ap₂ (λ (v : ℕ) (vs : List ℕ). v ∷ vs) (word_back w h.0 p.0) (words_back ws h.1 p.1)

word_of_option : (w : ℕ) → w < word_size → Given Finite (float_given w) → optional_float (float_given w) ≡ w
word_of_option w h f = go (eqb w absent) refl f
  where
    go : (t : Bool) → eqb w absent ≡ t → Given Finite (cond t None (Some (to_float w))) → optional_float (cond t None (Some (to_float w))) ≡ w
    go true e f = sym (eqb-true w absent e)
    go false e f = word_back w h (finite_plain (to_float w) f)

word_of_count : (k : ℕ) → or_else (count_given k) 0 ≡ k
word_of_count k = go (eqb k 0) refl
  where
    go : (t : Bool) → eqb k 0 ≡ t → or_else (cond t None (Some k)) 0 ≡ k
    go true e = sym (eqb-true k 0 e)
    go false e = refl

shape_whole : (w : ℕ) → w < 262144 → n_in w + 256 * maxcor_in w + 65536 * (w / 65536 % 2 + 2 * (w / 131072 % 2)) ≡ w
shape_whole w h = omega arith

box_flag_lem : (k : ℕ) (b : Bounds) → k < 2 → box_flag (cond (eqb k 1) (Some b) None) ≡ k
box_flag_lem zero b h = refl
box_flag_lem (suc zero) b h = refl
box_flag_lem (suc (suc k)) b h = absurd (omega arith)

scheme_flag_lem : (k : ℕ) → k < 2 → scheme_flag (cond (eqb k 1) Scheme.central Scheme.forward) ≡ 2 * k
scheme_flag_lem zero h = refl
scheme_flag_lem (suc zero) h = refl
scheme_flag_lem (suc (suc k)) h = absurd (omega arith)

take-tab : (k : ℕ) (ws : List ℕ) → k ≤ length ws → take k ws ≡ tab k (λ i. get_or ws i 0)
unfolding tab
take-tab zero ws h = refl
take-tab (suc k) [] h = absurd (omega arith)
take-tab (suc k) (w ∷ ws) h = ap (λ (l : List ℕ). w ∷ l) (take-tab k ws (omega arith))

-- three times n words
take_three : (n : ℕ) (l : List ℕ) → take (3 * n) l ≡ take n l ++ (take n (drop n l) ++ take n (drop (2 * n) l))
take_three n l =
    let three : 3 * n ≡ n + (n + n) = omega arith in
    let two : n + n ≡ 2 * n = omega arith in
    ap (λ (k : ℕ). take k l) three
    ∙ take-add n (n + n) l
    ∙ ap (λ (r : List ℕ). take n l ++ r)
    (take-add n n (drop n l) ∙ ap (λ (r : List ℕ). take n (drop n l) ++ take n r) (drop-drop n n l ∙ ap (λ (k : ℕ). drop k l) two))

-- ---- words of the setup

module _ (ws : List ℕ) (h : Words ws) where
  floats_word : (k n : ℕ) → Each Plain (floats_at ws k n) → map to_word (floats_at ws k n) ≡ take n (drop k ws)
  floats_word k n p = words_back (take n (drop k ws)) (each_take _ n (drop k ws) (each_drop _ k ws h)) p

  point_words : (n m : ℕ) (t : Bool) → Each Plain (floats_at ws 7 n) → Given (Sides m) (cond t (Some (box_at ws n)) None)
      → map to_word (floats_at ws 7 n) ++ bound_words (cond t (Some (box_at ws n)) None) ≡ take (cond t (3 * n) n) (drop 7 ws)
  point_words n m false p b = append-nil (map to_word (floats_at ws 7 n)) ∙ floats_word 7 n p
  point_words n m true p b =
      ap₂ ◌++◌ (floats_word 7 n p) (ap₂ ◌++◌ (floats_word (7 + n) n b.lower.plain) (floats_word (7 + 2 * n) n b.upper.plain))
      ∙ rw (← (drop-drop n 7 ws), ← (drop-drop (2 * n) 7 ws)) (sym (take_three n (drop 7 ws)))

  -- long enough, and with no spare bit set
  pub words_of_setup : setup_length (get_or ws 0 0) ≤ length ws → get_or ws 0 0 < 262144 → Accepted (setup_in ws)
      → setup_words (setup_in ws) ≡ take (setup_length (get_or ws 0 0)) ws
  unfolding setup_words setup_in tab
  words_of_setup long small a =
      let p = accepted_passed (setup_in ws) a in
      let w = get_or ws 0 0 in
      let n = n_in w in
      let enough = at_least (has_box w) n (length ws) long in
      let size : length (floats_at ws 7 n) ≡ n = length-map (take n (drop 7 ws)) to_float ∙ length-take-le n (drop 7 ws) (omega (arith, length-drop 7 ws)) in
      let shape : shape_word (setup_in ws) ≡ w
      = rw (size, word_of_count (maxcor_in w), box_flag_lem (w / 65536 % 2) (box_at ws n) (omega arith), scheme_flag_lem (w / 131072 % 2) (omega arith))
      (shape_whole w small) in
      let at : (k : ℕ) → k < 7 → get_or ws k 0 < word_size = λ k l. each_at (λ v. v < word_size) ws k 0 h (omega arith) in
      let rest = point_words n (length (floats_at ws 7 n)) (has_box w) (each_so Finite Plain (floats_at ws 7 n) finite_plain p.x0) p.bounds in
      let tol = word_of_option (get_or ws 3 0) (at 3 (omega arith)) p.tol in
      let ftol = word_of_option (get_or ws 4 0) (at 4 (omega arith)) p.ftol in
      let gtol = word_of_option (get_or ws 5 0) (at 5 (omega arith)) p.gtol in
      let eps = word_of_option (get_or ws 6 0) (at 6 (omega arith)) p.eps in
      rw (shape, word_of_count (get_or ws 1 0), word_of_count (get_or ws 2 0), tol, ftol, gtol, eps, rest)
      (sym (take-add 7 (cond (has_box w) (3 * n) n) ws ∙ ap (λ (l : List ℕ). l ++ take (cond (has_box w) (3 * n) n) (drop 7 ws)) (take-tab 7 ws (omega arith))))
    where
      at_least : (t : Bool) (n m : ℕ) → 7 + cond t (3 * n) n ≤ m → 7 + n ≤ m
      at_least true n m h = omega arith
      at_least false n m h = h
