-- Laws of reading an input: what a restore does is what the definition's reading says. Assumes nothing.
use Prim.Native.Nat.{ℕ, ◌≤◌, ◌<◌}
use native.Mathlib.Omega.{arith}
use mathlib.Core.Path.{◌≡◌, sym, ap, ap₂, ◌∙◌}
use mathlib.Core.List.{List}
use borrow.Author.Tests.{lt-ltb, le-ltb}
use lib.ListN.{length}
use lib.Ieee.{Float}
use Rattle.std.specs.Prelude.{Result, Ok, Err}
use Rattle.definition.specs.Record.{Lengths, Reading, plain_refusal, read_record}
use Rattle.definition.specs.History.{restored_answer}
use Rattle.definition.specs.Programs.{most_bytes, input_area, input_log, read_input}
use Rattle.definition.proofs.Plenty.{read_plenty}
use Rattle.problem.specs.Setups.{refusal_of}
use Rattle.problem.specs.declared.Refusal.{Refusal}
use Rattle.fit.specs.declared.Fit.{Fit}
use Rattle.lbfgsb.specs.Words.{Words, words, lengths}
use Rattle.lbfgsb.specs.Bridge.{next, kept}
use Rattle.lbfgsb.specs.Did.{Restores, Restored}
use Rattle.input.specs.Input.{Taken}

-- ---- an input too long

pub read_long : (bs : List ℕ) → most_bytes < length bs → read_input bs ≡ Reading.refused (plain_refusal 17)
unfolding read_input
read_long bs h = rw (lt-ltb most_bytes (length bs) h)

pub taken_long : (bs : List ℕ) (c : Refusal) (a : List Float) (l : List ℕ) → most_bytes < length bs → refusal_of c ≡ plain_refusal 17
    → Taken (read_input bs) (Err c) a l
taken_long bs c a l h e = rw (read_long bs h) e

-- ---- one that is restored

restored_taken : (d : Reading) (f : Fit) (r : Result Fit Refusal) (w : Words) (a : List Float) (l : List ℕ) → kept r ≡ restored_answer d
    → Restores d w (words (next f r) a l) → Taken d r a l
restored_taken (Reading.accepted b) f (Ok g) w a l e h = h.held
restored_taken (Reading.accepted b) f (Err c) w a l e h = let z : ◌≡◌ {A = ℕ} 0 1 = cc in omega arith
restored_taken (Reading.refused k) f (Ok g) w a l e h = let z : ◌≡◌ {A = ℕ} 0 1 = cc in omega arith
restored_taken (Reading.refused k) f (Err c) w a l e h = cc
restored_taken (Reading.refused_at_entry k) f (Ok g) w a l e h = let z : ◌≡◌ {A = ℕ} 0 1 = cc in omega arith
restored_taken (Reading.refused_at_entry k) f (Err c) w a l e h = cc

read_short : (bs : List ℕ) (z : Lengths) → length bs ≤ most_bytes → z.area ≡ input_area → z.log ≡ input_log → read_input bs ≡ read_record z bs
unfolding read_input
read_short bs z h a l =
    let same : ◌≡◌ {A = Lengths} z (record { area = input_area; log = input_log }) = ap₂ (λ (x y : ℕ). record { area = x; log = y }) a l in
    rw (le-ltb most_bytes (length bs) h) (sym (read_plenty bs h) ∙ ap (λ (x : Lengths). read_record x bs) (sym same))

pub taken_restored : (bs : List ℕ) (f : Fit) (r : Result Fit Refusal) (a : List Float) (l : List ℕ) (a' : List Float) (l' : List ℕ)
    → length bs ≤ most_bytes → length a ≡ input_area → length l ≡ input_log → Restored bs (words f a l) (words (next f r) a' l') (kept r)
    → Taken (read_input bs) r a' l'
taken_restored bs f r a l a' l' h n k d =
    rw (read_short bs (lengths (words f a l)) h n k)
    (restored_taken (read_record (lengths (words f a l)) bs) f r (words f a l) a' l' d.always d.restores)
