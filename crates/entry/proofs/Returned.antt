-- What `lbfgsb_entry` returns and writes, for every input and every output slice: the number and the bytes of `returned`, not a byte past them touched; and the
-- number is never 111 or 112. From its own generated contract, `Learnt`: what holds of its arguments, its result and what it leaves. Assumes nothing.
use Prim.Native.Nat.{ℕ}
use mathlib.Core.Path.{◌≡◌, sym, ◌∙◌}
use mathlib.Core.List.{List, ◌++◌}
use mathlib.Core.Logic.{◌≢◌}
use lib.ListN.{length, drop}
use contract.Lifetimes.{Lfts}
use denote.Triple.Clauses.{AtExit}
use borrow.Fn.Kinds.{Dens, ended_of, res_t}
use Rattle.definition.specs.Programs.{returned}
use Rattle.definition.proofs.Plenty.{never_returned_short}
use Rattle.entry.proofs.lbfgsb_entry.Kinds as entry-kinds
use Rattle.entry.proofs.lbfgsb_entry.Reads as entry-reads

pub record EntryExact (input out out' : List ℕ) (number : ℕ) : Type 0 where
  pub returns : number ≡ (returned (length out) input).number
  pub writes : out' ≡ (returned (length out) input).output ++ drop (length (returned (length out) input).output) out
  pub roomy : (number ≢ 111) × (number ≢ 112)

pub entry_exact :
    (κs : Lfts 2) (a : Dens κs entry-kinds.ps) (z : (res_t entry-kinds.r κs).Denot) (e : AtExit (ended_of 2 entry-kinds.ps entry-kinds.r) κs)
    → entry-reads.Learnt κs a z e → EntryExact a.0.now a.1.0.now e.1.0.now z
entry_exact κs a z e h =
    let other = never_returned_short (length a.1.0.now) a.0.now in
    record { returns = h.number; writes = h.output; roomy = (λ q. other.0 (sym h.number ∙ q), λ q. other.1 (sym h.number ∙ q)) }
