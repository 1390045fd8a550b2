-- What is printed for an answer of reading and reporting, by the definition. Assumes nothing.
use Prim.Native.Nat.{ℕ, ◌≤◌}
use mathlib.Core.Path.{◌≡◌, refl, ap, ◌∙◌, subst}
use mathlib.Core.Bool.{Bool, true, false, cond}
use mathlib.Core.List.{List}
use Rattle.std.specs.Prelude.{None, Result, Ok}
use native.Mathlib.Omega.{arith}
use borrow.Author.Tests.{le-ltb}
use lib.ListN.{length}
use lib.Ieee.{Float}
use Rattle.definition.specs.Problem.{refuse, when, ◌then◌}
use Rattle.definition.specs.Machine as M
use Rattle.definition.specs.Record.{Reading}
use Rattle.definition.specs.Book.{Book, run_of}
use Rattle.definition.specs.History as H
use Rattle.definition.specs.History.{Call, refused_by}
use Rattle.definition.specs.Programs.{input_coordinates, Printed, printed_fit, printed_of, printed, read_input}
use Rattle.problem.specs.declared.Refusal.{Refusal}
use Rattle.fit.specs.declared.Fit.{Fit}
use Rattle.question.specs.declared.Outcome.{Outcome}
use Rattle.held.proofs.Test.{ready_facts, held_ready}
use Rattle.lbfgsb.specs.Words.{Words, words, machine_in, Held}
use Rattle.lbfgsb.specs.Bridge.{told}
use Rattle.lbfgsb.specs.Did.{Read}
use Rattle.lbfgsb.specs.Table.{report_answer}
use Rattle.input.specs.Input.{Taken}

-- ---- a fit

held_n : {w : Words} {b : Book} → Held w b → w.state.shape.n ≤ input_coordinates
held_n {w} h = omega (arith, (ready_facts w.state (length w.area) (held_ready w.state w.area h.stands.test)).ready)

-- an answer to the report's call
abbrev pub answered : H.Answer → Printed
answered (H.Answer.refused r) = Printed.refused r.number
answered H.Answer.done = Printed.refused 0
answered (H.Answer.asked q) = Printed.refused 0
answered (H.Answer.reported r) = Printed.lines r
answered (H.Answer.counted k) = Printed.refused 0
answered (H.Answer.entered ws) = Printed.refused 0
answered (H.Answer.saved bs) = Printed.refused 0

reported : (u : Bool) (r : M.Report)
    → answered (refused_by (when u (refuse 15 0 0) then None) (H.Answer.reported r)) ≡ cond u (Printed.refused 15) (Printed.lines r)
reported true r = refl
reported false r = refl

held_answered : (w : Words) (b : Book) → Held w b → answered (report_answer w input_coordinates) ≡ printed_fit (run_of b)
held_answered w b h =
    rw (h.stands.test, le-ltb input_coordinates w.state.shape.n (held_n h))
    (reported (M.unreported (machine_in w).phase) (M.report_now (machine_in w)) ∙ ap printed_fit h.stands.is)

fit_go : (z : Reading) (f : Fit) (a : List Float) (l : List ℕ) (t : Result Outcome Refusal) (x : List Float) → Taken z (Ok f) a l
    → told t f.shape.n x ≡ report_answer (words f a l) input_coordinates → (f.shape.n ≤ input_coordinates) × (answered (told t f.shape.n x) ≡ printed_of z)
fit_go (Reading.accepted b) f a l t x h e = (held_n h, ap answered e ∙ held_answered (words f a l) b h)
fit_go (Reading.refused k) f a l t x h e = absurd h
fit_go (Reading.refused_at_entry k) f a l t x h e = absurd h

pub fit_printed : (bs : List ℕ) (r : Result Fit Refusal) (f : Fit) (a : List Float) (l : List ℕ) (t : Result Outcome Refusal) (x x' : List Float)
    → Taken (read_input bs) r a l
    → r ≡ Ok f → length x ≡ input_coordinates
    → ((m : List ℕ) → Read (Call.report (length x)) (words f a m) (told t f.shape.n x') x x')
    → (f.shape.n ≤ input_coordinates) × (answered (told t f.shape.n x') ≡ printed bs)
fit_printed bs r f a l t x x' h e k d =
    fit_go (read_input bs) f a l t x' (subst (λ (y : Result Fit Refusal). Taken (read_input bs) y a l) e h) ((d l).always ∙ ap (report_answer (words f a l)) k)
