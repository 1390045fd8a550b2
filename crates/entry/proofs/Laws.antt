-- Laws of the C entry: what the operations answer for a fit that is held, and what is returned by each answer. Assumes nothing.
use Prim.Native.Nat.{ℕ, ◌≤◌}
use native.Mathlib.Omega.{arith}
use mathlib.Core.Path.{◌≡◌, refl, sym, ap, ◌∙◌, subst}
use mathlib.Core.Bool.{Bool, true, false, cond}
use mathlib.Core.List.{List, []}
use Rattle.std.specs.Prelude.{Option, None, Some, Result, Ok, Err}
use Rattle.std.specs.Result.{result_unwrap_or}
use borrow.Author.Tests.{le-ltb}
use lib.Dec.{eqb, ltb}
use lib.ListN.{length, take}
use lib.Ieee.{Float}
use Rattle.definition.specs.Problem as P
use Rattle.definition.specs.Problem.{refuse, when, ◌then◌, dimension}
use Rattle.definition.specs.Machine as M
use Rattle.definition.specs.Machine.{Machine, Phase, Question, question_in, question, status_of, unreported, report_now}
use Rattle.definition.specs.Record.{Reading, plain_refusal}
use Rattle.definition.specs.Replies.{Accepted}
use Rattle.definition.specs.History as H
use Rattle.definition.specs.Book.{Book, run_of}
use Rattle.definition.specs.History.{output_short, check_question, refused_by}
use Rattle.definition.specs.Programs.{input_coordinates, return_point, return_end, return_fit}
use Rattle.definition.proofs.Accepted.{accepted_in_limits}
use Rattle.problem.specs.Setups.{refusal_of}
use Rattle.problem.specs.declared.Refusal.{Refusal}
use Rattle.fit.specs.declared.Fit.{Fit}
use Rattle.fit.specs.declared.Kind.{Kind}
use Rattle.fit.specs.State.{kind_number}
use Rattle.question.specs.Reports.{report_of}
use Rattle.question.specs.declared.Outcome.{Outcome}
use Rattle.held.proofs.Test.{ready_facts, held_ready}
use Rattle.lbfgsb.specs.Bridge.{asked, told}
use Rattle.input.specs.Input.{Taken}
use Rattle.entry.specs.Entry.{Returns, HasEnded}

-- ---- what is answered for a fit that is held, with room for its coordinates

module _ (room : ℕ) (b : Book) (a : Accepted b.setup) (h : P.most_coordinates ≤ room) where
  fits : ltb room (dimension b.setup) ≡ false
  fits = le-ltb room (dimension b.setup) (omega (arith, (accepted_in_limits b.setup a).coordinates.1))

  pub question_answered : refused_by (check_question b room (question (run_of b))) (H.Answer.asked (question (run_of b))) ≡ H.Answer.asked (question (run_of b))
  question_answered = go (question (run_of b))
    where
      go : (q : Option Question) → refused_by (check_question b room q) (H.Answer.asked (question (run_of b))) ≡ H.Answer.asked (question (run_of b))
      go None = refl
      go (Some q) = rw fits

  abbrev whole : H.Answer
  whole = H.Answer.reported (report_now (run_of b))

  pub report_answered : refused_by (when (unreported (run_of b).phase) (refuse 15 0 0) then output_short room (dimension b.setup)) whole
      ≡ cond (unreported (run_of b).phase) (H.Answer.refused (plain_refusal 15)) whole
  report_answered = go (unreported (run_of b).phase)
    where
      go : (t : Bool)
          → refused_by (when t (refuse 15 0 0) then output_short room (dimension b.setup)) whole ≡ cond t (H.Answer.refused (plain_refusal 15)) whole
      go true = refl
      go false = rw fits

-- ---- a fit that has ended: only a failure has no report

ended_status : (m : Machine) (p : Phase) → question_in m p ≡ None → unreported p ≡ eqb (status_of p) 8
ended_status m (Phase.value w) e = let z : ◌≡◌ {A = ℕ} 0 1 = cc in absurd (omega arith)
ended_status m (Phase.gradient w) e = let z : ◌≡◌ {A = ℕ} 0 1 = cc in absurd (omega arith)
ended_status m (Phase.probe w i side) e = let z : ◌≡◌ {A = ℕ} 0 1 = cc in absurd (omega arith)
ended_status m Phase.notice e = let z : ◌≡◌ {A = ℕ} 0 1 = cc in absurd (omega arith)
ended_status m (Phase.ended t) e = refl

module _ (m : Machine) (room n : ℕ) (p : List Float) (out : List ℕ) (e : HasEnded m) where
  abbrev Reported : Result Outcome Refusal → Type 0
  Reported t = told t n p ≡ cond (unreported m.phase) (H.Answer.refused (plain_refusal 15)) (H.Answer.reported (report_now m))

  pub end_failed : (t : Result Outcome Refusal) (c : Refusal) → t ≡ Err c → Reported t → Returns (return_end room m) 0 out out
  end_failed t c q h = rw (sym (ended_status m m.phase e)) (go (unreported m.phase) (sym (ap (λ (x : Result Outcome Refusal). told x n p) q) ∙ h))
    where
      go : (b : Bool) → H.Answer.refused (refusal_of c) ≡ cond b (H.Answer.refused (plain_refusal 15)) (H.Answer.reported (report_now m))
          → Returns (cond b (record { number = 0; output = [] }) (return_point room 0 m.held.x)) 0 out out
      go true h = record { number = refl; output = refl }
      go false h = let z : ◌≡◌ {A = ℕ} 0 1 = cc in absurd (omega arith)

  pub end_put : (t : Result Outcome Refusal) (o : Outcome) (r : ℕ) (out' : List ℕ) → t ≡ Ok o → Reported t
      → Returns (return_point room 0 (take n p)) r out out' → Returns (return_end room m) r out out'
  end_put t o r out' q h k = rw (sym (ended_status m m.phase e)) (go (unreported m.phase) (sym (ap (λ (x : Result Outcome Refusal). told x n p) q) ∙ h))
    where
      go : (b : Bool) → H.Answer.reported (report_of o (take n p)) ≡ cond b (H.Answer.refused (plain_refusal 15)) (H.Answer.reported (report_now m))
          → Returns (cond b (record { number = 0; output = [] }) (return_point room 0 m.held.x)) r out out'
      go true h = let z : ◌≡◌ {A = ℕ} 0 1 = cc in absurd (omega arith)
      go false h =
          let same : report_of o (take n p) ≡ report_now m = cc in
          subst (λ (x : List Float). Returns (return_point room 0 x) r out out') (ap (λ (x : M.Report). x.point) same) k

-- ---- the open question

module _ (m : Machine) (n : ℕ) (p : List Float) where
  -- a refusal is nothing asked
  abbrev Open : Result (Option Kind) Refusal → Option Kind → Type 0
  Open q a = a ≡ result_unwrap_or q None

  pub asked_nothing : (q : Result (Option Kind) Refusal) (a : Option Kind) → Open q a → a ≡ None → asked q n p ≡ H.Answer.asked (question m) → HasEnded m
  asked_nothing (Ok None) a o i e = cc
  asked_nothing (Ok (Some k)) a o i e = let z : ◌≡◌ {A = ℕ} 0 1 = cc in absurd (omega arith)
  asked_nothing (Err c) a o i e = let z : ◌≡◌ {A = ℕ} 0 1 = cc in absurd (omega arith)

  pub asked_is : (q : Result (Option Kind) Refusal) (a : Option Kind) (k : Kind) → Open q a → a ≡ Some k → q ≡ Ok (Some k)
  asked_is (Ok x) a k o i = cc
  asked_is (Err c) a k o i = let z : ◌≡◌ {A = ℕ} 0 1 = cc in absurd (omega arith)

  pub asked_put : (q : Result (Option Kind) Refusal) (k : Kind) (j room r : ℕ) (out out' : List ℕ) → q ≡ Ok (Some k) → j ≡ kind_number (Some k)
      → asked q n p ≡ H.Answer.asked (question m) → Returns (return_point room j (take n p)) r out out'
      → Returns (return_fit room m (question m)) r out out'
  asked_put q k j room r out out' e i h g = go (question m) (sym (ap (λ (x : Result (Option Kind) Refusal). asked x n p) e) ∙ h)
    where
      go : (o : Option Question) → H.Answer.asked (Some (record { kind = kind_number (Some k); point = take n p })) ≡ H.Answer.asked o
          → Returns (return_fit room m o) r out out'
      go None h = let z : ◌≡◌ {A = ℕ} 0 1 = cc in absurd (omega arith)
      go (Some x) h =
          let same : ◌≡◌ {A = Question} (record { kind = kind_number (Some k); point = take n p }) x = cc in
          subst (λ (y : Question). Returns (return_point room y.kind y.point) r out out') same
          (subst (λ (x : ℕ). Returns (return_point room x (take n p)) r out out') i g)

pub fit_ended : (m : Machine) (room r : ℕ) (out out' : List ℕ) → HasEnded m → Returns (return_end room m) r out out'
    → Returns (return_fit room m (question m)) r out out'
fit_ended m room r out out' e h = rw e h

-- ---- what is read

module _ (a : List Float) (l : List ℕ) where
  small : (d : Reading) (f : Fit) → Taken d (Ok f) a l → f.shape.n ≤ input_coordinates
  small (Reading.accepted b) f h = omega (arith, (ready_facts f (length a) (held_ready f a h.stands.test)).ready)
  small (Reading.refused c) f h = absurd h
  small (Reading.refused_at_entry c) f h = absurd h

  pub read_small : (d : Reading) (r : Result Fit Refusal) (f : Fit) → r ≡ Ok f → Taken d r a l → f.shape.n ≤ input_coordinates
  read_small d r f e h = small d f (subst (λ (x : Result Fit Refusal). Taken d x a l) e h)
