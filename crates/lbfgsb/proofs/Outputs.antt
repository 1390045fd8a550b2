-- An output is the answer's part at its front, and the rest of it is as it was: for each read, from its contract. Assumes nothing.
use Prim.Native.Nat.{ℕ, zero, suc}
use native.Mathlib.Omega.{arith}
use mathlib.Core.Path.{◌≡◌, refl, sym, ap, subst, ◌∙◌}
use mathlib.Core.List.{List, [], ◌∷◌, ◌++◌}
use lib.ListN.{length, take, drop}
use lib.Ieee.{Float}
use Rattle.definition.specs.History.{Call, Answer}
use Rattle.lbfgsb.specs.Words.{Words}
use Rattle.lbfgsb.specs.Bridge.{asked, told, entered, saved, first_of}
use Rattle.lbfgsb.specs.Did.{Written, taken}
use Rattle.lbfgsb.specs.Chain.{Output, floats_of, numbers_of}
use Rattle.std.specs.Prelude.{Option, None, Some, Result, Ok, Err}
use Rattle.problem.specs.declared.Refusal.{Refusal}
use Rattle.fit.specs.declared.Kind.{Kind}
use Rattle.question.specs.declared.Outcome.{Outcome}
use Rattle.lbfgsb.proofs.Firsts.{first_long, first_taken}
use Rattle.lbfgsb.proofs.Trace.{Called, by_start, by_restore, by_reply, by_take_back, by_question, by_report, by_replies, by_entry, by_save}

front_back : {A : Type 0} (n : ℕ) (l : List A) → take n l ++ drop (length (take n l)) l ≡ l
front_back zero l = refl
front_back (suc n) [] = refl
front_back {A} (suc n) (x ∷ l) = ap (λ (r : List A). x ∷ r) (front_back n l)

-- nothing written, and n places written
none_written : {A : Type 0} {out out' : List A} → Written 0 out out' → Output [] out out'
none_written h = h.rest

some_written : {A : Type 0} {out out' : List A} (n : ℕ) → Written (length (take n out')) out out' → Output (take n out') out out'
some_written {A} {out} {out'} n h = sym (front_back n out') ∙ ap (λ (r : List A). take n out' ++ r) h.rest

-- as many as a number that was returned
first_written : {out out' : List ℕ} (k : ℕ) → Written (length (first_of k out')) out out' → Output (first_of k out') out out'
first_written {out} {out'} k h =
    let same : first_of k out' ≡ take k out' = first_taken k out' (omega (arith, h.within, h.sized, first_long k out')) in
    subst (λ (v : List ℕ). Output v out out') (sym same) (some_written k (subst (λ (v : List ℕ). Written (length v) out out') same h))

asked_written : (z : Result (Option Kind) Refusal) (n : ℕ) (out out' : List Float) → Written (taken (asked z n out')) out out'
    → Output (floats_of (asked z n out')) out out'
asked_written (Ok None) n out out' h = none_written h
asked_written (Ok (Some k)) n out out' h = some_written n h
asked_written (Err c) n out out' h = none_written h

told_written : (z : Result Outcome Refusal) (n : ℕ) (out out' : List Float) → Written (taken (told z n out')) out out'
    → Output (floats_of (told z n out')) out out'
told_written (Ok o) n out out' h = some_written n h
told_written (Err c) n out out' h = none_written h

entered_written : (z : Result ℕ Refusal) (out out' : List ℕ) → Written (taken (entered z out')) out out' → Output (numbers_of (entered z out')) out out'
entered_written (Ok k) out out' h = first_written k h
entered_written (Err c) out out' h = none_written h

saved_written : (z : Result ℕ Refusal) (out out' : List ℕ) → Written (taken (saved z out')) out out' → Output (numbers_of (saved z out')) out out'
saved_written (Ok k) out out' h = first_written k h
saved_written (Err c) out out' h = none_written h

-- equal answers leave equal outputs, where they were equal
pub answer_decides : {A : Type 0} (front out a b : List A) → Output front out a → Output front out b → a ≡ b
answer_decides front out a b p q = p ∙ sym q

-- ---- each call: the answer and the output are those of `Called`; a call that is lent no output has none

abbrev pub OutputOf : {c : Call} {w w' : Words} {o : Answer} → Called c w w' o → Type 0
OutputOf (by_start κs a z e log l) = Unit {0}
OutputOf (by_restore κs a z e l) = Unit {0}
OutputOf (by_reply κs a z e l) = Unit {0}
OutputOf (by_take_back κs a z e l) = Unit {0}
OutputOf (by_question κs a z e log l) = Output (floats_of (asked z a.0.shape.n e.1.1.0.now)) a.1.1.0.now e.1.1.0.now
OutputOf (by_report κs a z e log l) = Output (floats_of (told z a.0.shape.n e.1.1.0.now)) a.1.1.0.now e.1.1.0.now
OutputOf (by_replies κs a z e log l) = Unit {0}
OutputOf (by_entry κs a z e l) = Output (numbers_of (entered z e.1.1.1.1.0.now)) a.1.1.1.1.0.now e.1.1.1.1.0.now
OutputOf (by_save κs a z e l) = Output (numbers_of (saved z e.1.1.1.0.now)) a.1.1.1.0.now e.1.1.1.0.now

pub output : {c : Call} {w w' : Words} {o : Answer} (d : Called c w w' o) → OutputOf d
output (by_start κs a z e log l) = tt
output (by_restore κs a z e l) = tt
output (by_reply κs a z e l) = tt
output (by_take_back κs a z e l) = tt
output (by_question κs a z e log l) = asked_written z a.0.shape.n a.1.1.0.now e.1.1.0.now (l log).written
output (by_report κs a z e log l) = told_written z a.0.shape.n a.1.1.0.now e.1.1.0.now (l log).written
output (by_replies κs a z e log l) = tt
output (by_entry κs a z e l) = entered_written z a.1.1.1.1.0.now e.1.1.1.1.0.now l.written
output (by_save κs a z e l) = saved_written z a.1.1.1.0.now e.1.1.1.0.now l.written
