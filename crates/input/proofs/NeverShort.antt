-- `input::read` never refuses by 11 or 12: its area and its log are enough for every input. Assumes nothing.
use Prim.Native.Nat.{ℕ}
use mathlib.Core.Path.{◌≡◌, refl, sym, ap, ◌∙◌, subst}
use mathlib.Core.Logic.{◌≢◌, inl, inr}
use mathlib.Core.List.{List}
use lib.Ieee.{Float}
use contract.Lifetimes.{Lfts}
use denote.Triple.Clauses.{AtExit}
use borrow.Fn.Kinds.{Dens, ended_of, res_t}
use Rattle.std.specs.Prelude.{Result, Err}
use Rattle.definition.specs.Record.{Reading}
use Rattle.definition.specs.Programs.{read_input}
use Rattle.definition.proofs.Plenty.{never_short}
use Rattle.problem.specs.Setups.{refusal_of}
use Rattle.problem.specs.declared.Refusal.{Refusal}
use Rattle.fit.specs.declared.Fit.{Fit}
use Rattle.input.specs.Input.{Taken}
use Rattle.input.proofs.read.Kinds as read-kinds
use Rattle.input.proofs.read.Reads as read-reads

pub taken_never_short :
    (bs : List ℕ) (c : Refusal) (a : List Float) (l : List ℕ) → Taken (read_input bs) (Err c) a l → ((refusal_of c).number ≢ 11) × ((refusal_of c).number ≢ 12)
taken_never_short bs c a l h = go (read_input bs) refl h
  where
    go : (d : Reading) → read_input bs ≡ d → Taken d (Err c) a l → ((refusal_of c).number ≢ 11) × ((refusal_of c).number ≢ 12)
    go (Reading.accepted b) e h = absurd h
    go (Reading.refused k) e h = never_short bs (refusal_of c) (inl (e ∙ ap Reading.refused (sym h)))
    go (Reading.refused_at_entry k) e h = never_short bs (refusal_of c) (inr (e ∙ ap Reading.refused_at_entry (sym h)))

-- whatever `read` is called on, by its own generated contract, `Learnt`: what holds of its arguments, its result and what it leaves
pub read_never_short :
    (κs : Lfts 3) (a : Dens κs read-kinds.ps) (z : (res_t read-kinds.r κs).Denot) (e : AtExit (ended_of 3 read-kinds.ps read-kinds.r) κs) (c : Refusal)
    → read-reads.Learnt κs a z e → z ≡ Err c → ((refusal_of c).number ≢ 11) × ((refusal_of c).number ≢ 12)
read_never_short κs a z e c h q =
    let input = a.1.1.0.now in
    taken_never_short input c e.0.now e.1.0.now (subst (λ (x : Result Fit Refusal). Taken (read_input input) x e.0.now e.1.0.now) q h)
