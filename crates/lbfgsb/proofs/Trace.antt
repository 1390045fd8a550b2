-- The theorem on every list of calls (demand 3), from the contracts alone. Assumes nothing.
--
-- How to read it. specs/Chain.antt has every word of the claims; the history is document 01's book, definition/specs/History.antt.
-- 1. `Called` is what a caller learns of the nine exported functions, and no more: each case is built of the function's own generated contract (`Learnt`),
--    with the words before, the words after and the answer read off its arguments and its result. `exported` holds the theorems that the nine functions
--    meet these contracts. So no contract can be weakened below what the claims rest on without a refusal here.
--    A shared slice has one value throughout a call, so a read leaves the words as they were; a function that is not lent the log leaves it as it was.
-- 2. `every_list` is the claim from words that hold no fit, `every_opened_list` from any words, for a list that begins with an accepted opening or reading in.
--    The induction stands in Lists, over any relation of one call; two facts of `Called` are put there, `did` and `opening`.
-- Beside this file, from the same `Called`: InOrder has the claim with the replies in the order given, Consequences what a report says once there is a value
-- reply and no failure, Alike what lists with equal histories leave (Determined and Areas show that the words are determined), Unread that scratch is not read,
-- Exact what every call does at any words at all (demand 1), Outputs what it writes, Leaves what a refused call leaves in a history, Records what is saved and
-- read in again (Typed: by calls whose arguments are values of their types).
use Prim.Native.Nat.{ℕ}
use mathlib.Core.Path.{◌≡◌, refl}
use mathlib.Core.List.{List}
use lib.ListN.{length}
use contract.Lifetimes.{Lfts}
use denote.Triple.Clauses.{AtExit}
use borrow.Fn.Kinds.{Dens, ended_of, res_t}
use Rattle.definition.specs.Book.{Book}
use Rattle.definition.specs.Record.{Lengths}
use Rattle.definition.specs.Sound.{Sound}
use Rattle.definition.specs.History.{Call, Answer, History}
use Rattle.problem.specs.Setups.{setup_of}
use Rattle.lbfgsb.specs.Words.{Words, words, lengths, Held, Holds}
use Rattle.lbfgsb.specs.Bridge.{replied, next, kept, asked, told, entered, saved}
use Rattle.lbfgsb.specs.Did.{Did, Opening}
use Rattle.lbfgsb.specs.Chain.{Chain, Blank, Opens, Allowed, Keeps, After, Demand}
use Rattle.lbfgsb.proofs.Lists as lists
use Rattle.lbfgsb.proofs.Lists.{Known, read_did}
use Rattle.lbfgsb.proofs.start.Kinds as start-kinds
use Rattle.lbfgsb.proofs.start.Reads as start-reads
use Rattle.lbfgsb.proofs.start.Statement as start-says
use Rattle.lbfgsb.proofs.start.Met as start-met
use Rattle.lbfgsb.proofs.restore.Kinds as restore-kinds
use Rattle.lbfgsb.proofs.restore.Reads as restore-reads
use Rattle.lbfgsb.proofs.restore.Statement as restore-says
use Rattle.lbfgsb.proofs.restore.Met as restore-met
use Rattle.lbfgsb.proofs.reply.Kinds as reply-kinds
use Rattle.lbfgsb.proofs.reply.Reads as reply-reads
use Rattle.lbfgsb.proofs.reply.Statement as reply-says
use Rattle.lbfgsb.proofs.reply.Met as reply-met
use Rattle.lbfgsb.proofs.take_back.Kinds as take-back-kinds
use Rattle.lbfgsb.proofs.take_back.Reads as take-back-reads
use Rattle.lbfgsb.proofs.take_back.Statement as take-back-says
use Rattle.lbfgsb.proofs.take_back.Met as take-back-met
use Rattle.lbfgsb.proofs.question.Kinds as question-kinds
use Rattle.lbfgsb.proofs.question.Reads as question-reads
use Rattle.lbfgsb.proofs.question.Statement as question-says
use Rattle.lbfgsb.proofs.question.Met as question-met
use Rattle.lbfgsb.proofs.report.Kinds as report-kinds
use Rattle.lbfgsb.proofs.report.Reads as report-reads
use Rattle.lbfgsb.proofs.report.Statement as report-says
use Rattle.lbfgsb.proofs.report.Met as report-met
use Rattle.lbfgsb.proofs.replies.Kinds as replies-kinds
use Rattle.lbfgsb.proofs.replies.Reads as replies-reads
use Rattle.lbfgsb.proofs.replies.Statement as replies-says
use Rattle.lbfgsb.proofs.replies.Met as replies-met
use Rattle.lbfgsb.proofs.entry.Kinds as entry-kinds
use Rattle.lbfgsb.proofs.entry.Reads as entry-reads
use Rattle.lbfgsb.proofs.entry.Statement as entry-says
use Rattle.lbfgsb.proofs.entry.Met as entry-met
use Rattle.lbfgsb.proofs.save.Kinds as save-kinds
use Rattle.lbfgsb.proofs.save.Reads as save-reads
use Rattle.lbfgsb.proofs.save.Statement as save-says
use Rattle.lbfgsb.proofs.save.Met as save-met

-- 1. The exported functions: each routine meets its contract (`Met`), and `Called` is what the contract tells a caller (`Learnt`)

pub record Exported (M : Type 1) : Type 2 where
  pub start_meets : start-says.statement M
  pub restore_meets : restore-says.statement M
  pub reply_meets : reply-says.statement M
  pub take_back_meets : take-back-says.statement M
  pub question_meets : question-says.statement M
  pub report_meets : report-says.statement M
  pub replies_meets : replies-says.statement M
  pub entry_meets : entry-says.statement M
  pub save_meets : save-says.statement M

pub exported : {M : Type 1} → Exported M
exported = record {
  start_meets = start-met.met;
  restore_meets = restore-met.met;
  reply_meets = reply-met.met;
  take_back_meets = take-back-met.met;
  question_meets = question-met.met;
  report_meets = report-met.met;
  replies_meets = replies-met.met;
  entry_meets = entry-met.met;
  save_meets = save-met.met;
}

pub data Called : Call → Words → Words → Answer → Type 0 where
  by_start :
      (κs : Lfts 2) (a : Dens κs start-kinds.ps) (z : (res_t start-kinds.r κs).Denot) (e : AtExit (ended_of 2 start-kinds.ps start-kinds.r) κs) (log : List ℕ)
      → start-reads.Learnt κs a z e
      → Called (Call.start (setup_of a.1.1.0))
      (words a.0 a.1.0.now log) (words (next a.0 z) e.1.0.now log) (kept z)
  by_restore :
      (κs : Lfts 3) (a : Dens κs restore-kinds.ps) (z : (res_t restore-kinds.r κs).Denot) (e : AtExit (ended_of 3 restore-kinds.ps restore-kinds.r) κs)
      → restore-reads.Learnt κs a z e
      → Called (Call.restore a.1.1.1.0.now)
      (words a.0 a.1.0.now a.1.1.0.now) (words (next a.0 z) e.1.0.now e.1.1.0.now) (kept z)
  by_reply :
      (κs : Lfts 3) (a : Dens κs reply-kinds.ps) (z : (res_t reply-kinds.r κs).Denot) (e : AtExit (ended_of 3 reply-kinds.ps reply-kinds.r) κs)
      → reply-reads.Learnt κs a z e
      → Called (Call.reply (replied a.1.1.1.0 a.1.1.1.1.0.now))
      (words a.0 a.1.0.now a.1.1.0.now) (words (next a.0 z) e.1.0.now e.1.1.0.now) (kept z)
  by_take_back :
      (κs : Lfts 2) (a : Dens κs take-back-kinds.ps) (z : (res_t take-back-kinds.r κs).Denot) (e : AtExit (ended_of 2 take-back-kinds.ps take-back-kinds.r) κs)
      → take-back-reads.Learnt κs a z e
      → Called (Call.take_back a.1.1.1.0)
      (words a.0 a.1.0.now a.1.1.0.now) (words (next a.0 z) e.1.0.now e.1.1.0.now) (kept z)
  by_question :
      (κs : Lfts 2) (a : Dens κs question-kinds.ps) (z : (res_t question-kinds.r κs).Denot) (e : AtExit (ended_of 2 question-kinds.ps question-kinds.r) κs)
      (log : List ℕ)
      → question-reads.Learnt κs a z e
      → Called (Call.question (length a.1.1.0.now))
      (words a.0 a.1.0.now log) (words a.0 a.1.0.now log) (asked z a.0.shape.n e.1.1.0.now)
  by_report :
      (κs : Lfts 2) (a : Dens κs report-kinds.ps) (z : (res_t report-kinds.r κs).Denot)
      (e : AtExit (ended_of 2 report-kinds.ps report-kinds.r) κs) (log : List ℕ)
      → report-reads.Learnt κs a z e
      → Called (Call.report (length a.1.1.0.now))
      (words a.0 a.1.0.now log) (words a.0 a.1.0.now log) (told z a.0.shape.n e.1.1.0.now)
  by_replies :
      (κs : Lfts 1) (a : Dens κs replies-kinds.ps) (z : (res_t replies-kinds.r κs).Denot) (e : AtExit (ended_of 1 replies-kinds.ps replies-kinds.r) κs)
      (log : List ℕ)
      → replies-reads.Learnt κs a z e
      → Called Call.replies (words a.0 a.1.0.now log) (words a.0 a.1.0.now log) (Answer.counted z)
  by_entry :
      (κs : Lfts 3) (a : Dens κs entry-kinds.ps) (z : (res_t entry-kinds.r κs).Denot) (e : AtExit (ended_of 3 entry-kinds.ps entry-kinds.r) κs)
      → entry-reads.Learnt κs a z e
      → Called (Call.entry a.1.1.1.0 (length a.1.1.1.1.0.now))
      (words a.0 a.1.0.now a.1.1.0.now) (words a.0 a.1.0.now a.1.1.0.now) (entered z e.1.1.1.1.0.now)
  by_save :
      (κs : Lfts 3) (a : Dens κs save-kinds.ps) (z : (res_t save-kinds.r κs).Denot) (e : AtExit (ended_of 3 save-kinds.ps save-kinds.r) κs)
      → save-reads.Learnt κs a z e
      → Called (Call.save (length a.1.1.1.0.now))
      (words a.0 a.1.0.now a.1.1.0.now) (words a.0 a.1.0.now a.1.1.0.now) (saved z e.1.1.1.0.now)

pub did : {c : Call} {w w' : Words} {o : Answer} → Called c w w' o → Did c w w' o
did (by_start κs a z e log l) = (l log).did
did (by_restore κs a z e l) = l.did
did (by_reply κs a z e l) = l.did
did (by_take_back κs a z e l) = l.did
did (by_question κs a z e log l) = read_did refl (l log).said
did (by_report κs a z e log l) = read_did refl (l log).said
did (by_replies κs a z e log l) = read_did refl (l log).said
did (by_entry κs a z e l) = read_did refl l.said
did (by_save κs a z e l) = read_did refl l.said

-- what an opening or a reading in tells of any words
pub opening : {c : Call} {w w' : Words} {o : Answer} → Called c w w' o → Opening c w w' o
opening (by_start κs a z e log l) = l log
opening (by_restore κs a z e l) = l
opening (by_reply κs a z e l) = tt
opening (by_take_back κs a z e l) = tt
opening (by_question κs a z e log l) = tt
opening (by_report κs a z e log l) = tt
opening (by_replies κs a z e log l) = tt
opening (by_entry κs a z e l) = tt
opening (by_save κs a z e l) = tt

known : Known Called
known = record { did = λ d. did d; opening = λ d. opening d }

-- 2. Every list

pub from : {w w' : Words} {cs : List Call} {os : List Answer} → Chain Called w cs os w' → (z : Lengths) (h : History) → lengths w ≡ z → Holds w h
    → After z h cs os w'
from = lists.from known

-- what calls find in words that hold a fit
pub keeps : {w : Words} {b : Book} → Held w b → Sound (lengths w) b → Keeps Called w b
keeps = lists.keeps known

pub after : {w w' : Words} {cs : List Call} {os : List Answer} → Allowed w cs os → Chain Called w cs os w' → After (lengths w) History.empty cs os w'
after = lists.after known

pub every_allowed_list : {w w' : Words} {cs : List Call} {os : List Answer} → Allowed w cs os → Chain Called w cs os w' → Demand Called w cs os w'
every_allowed_list = lists.every known

-- from words that hold no fit
pub every_list : {w w' : Words} {cs : List Call} {os : List Answer} → Blank w → Chain Called w cs os w' → Demand Called w cs os w'
every_list b ch = every_allowed_list (Allowed.blank b) ch

-- from any words, if the list begins with an accepted opening or reading in
pub every_opened_list : {w w' : Words} {cs : List Call} {os : List Answer} → Opens cs os → Chain Called w cs os w' → Demand Called w cs os w'
every_opened_list p ch = every_allowed_list (Allowed.opens p) ch
