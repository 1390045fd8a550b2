-- What calls of the exported functions bring: their arguments are values of their types, an `f64` a float of binary64, a `u64` below 2 ^ 64, a `u8` below 256.
-- That is all that the theorems on records ask (`Brings`). The logic has a slice's elements as plain numbers and floats, so it is said here. Assumes nothing.
use Prim.Native.Nat.{ℕ, zero, suc, ◌<◌}
use native.Mathlib.Omega.{arith}
use mathlib.Core.Path.{◌≡◌, sym, subst}
use mathlib.Core.Bool.{Bool, true, false}
use mathlib.Core.List.{List}
use Rattle.std.specs.Prelude.{Option, None}
use lib.ListN.{replicate}
use lib.Ieee.{Float, fits}
use contract.Lifetimes.{Lfts}
use denote.Triple.Clauses.{AtExit}
use borrow.Fn.Kinds.{Dens, ended_of, res_t}
use Rattle.definition.specs.Number.{zero64}
use Rattle.definition.specs.Record.{word_size}
use Rattle.definition.specs.Values.{Each, Given, Bytes, Words as WordsOf, Binary64, BoxFloats, SetupFloats, Brings}
use Rattle.definition.specs.Log.{entry_words}
use Rattle.definition.specs.History.{Call, Answer}
use Rattle.problem.specs.Setups.{bounds_in}
use Rattle.problem.specs.declared.Options.{Options}
use Rattle.problem.specs.declared.Setup.{Setup}
use Rattle.driver.specs.declared.Reply.{Reply}
use Rattle.driver.specs.declared.Reply.TheVariants as R
use Rattle.lbfgsb.specs.Words.{Words}
use Rattle.lbfgsb.specs.Bridge.{setup_of, replied}
use Rattle.lbfgsb.specs.Chain.{Chain}
use Rattle.lbfgsb.proofs.Trace.{Called, by_start, by_restore, by_reply, by_take_back, by_question, by_report, by_replies, by_entry, by_save}
use Rattle.lbfgsb.proofs.start.Kinds as start-kinds
use Rattle.lbfgsb.proofs.start.Reads as start-reads
use Rattle.lbfgsb.proofs.restore.Kinds as restore-kinds
use Rattle.lbfgsb.proofs.restore.Reads as restore-reads
use Rattle.lbfgsb.proofs.reply.Kinds as reply-kinds
use Rattle.lbfgsb.proofs.reply.Reads as reply-reads

-- ---- the arguments

pub record OptionFloats (o : Options) : Type 0 where
  pub tol : Given Binary64 o.tol
  pub ftol : Given Binary64 o.ftol
  pub gtol : Given Binary64 o.gtol
  pub eps : Given Binary64 o.eps

abbrev pub SetupWords : Setup → Type 0
SetupWords s = OptionFloats s.options × Each Binary64 s.x0.now × Each Binary64 s.lower.now × Each Binary64 s.upper.now

abbrev pub ReplyWord : Reply → Type 0
ReplyWord (R.Value w) = w < word_size
ReplyWord R.Gradient = Unit {0}
ReplyWord R.NotSupplied = Unit {0}
ReplyWord R.GoOn = Unit {0}
ReplyWord R.Stop = Unit {0}
ReplyWord R.Failure = Unit {0}

-- of a call of an exported function, those that its history is fed
abbrev pub Typed : {c : Call} {w w' : Words} {o : Answer} → Called c w w' o → Type 0
Typed (by_start κs a z e log l) = SetupWords a.1.1.0
Typed (by_restore κs a z e l) = Bytes a.1.1.1.0.now
Typed (by_reply κs a z e l) = ReplyWord a.1.1.1.0 × WordsOf a.1.1.1.1.0.now
Typed (by_take_back κs a z e l) = Unit {0}
Typed (by_question κs a z e log l) = Unit {0}
Typed (by_report κs a z e log l) = Unit {0}
Typed (by_replies κs a z e log l) = Unit {0}
Typed (by_entry κs a z e l) = Unit {0}
Typed (by_save κs a z e l) = Unit {0}

-- of each call of a list
abbrev pub EachTyped : {w w' : Words} {cs : List Call} {os : List Answer} → Chain Called w cs os w' → Type 0
EachTyped Chain.end = Unit {0}
EachTyped (Chain.call d ds) = Typed d × EachTyped ds

-- ---- what they bring

box_floats : (bounded : Bool) (l u : List Float) → Each Binary64 l → Each Binary64 u → Given BoxFloats (bounds_in bounded l u)
box_floats true l u p q = (p, q)
box_floats false l u p q = tt

setup_floats : (s : Setup) → SetupWords s → SetupFloats (setup_of s)
setup_floats s h = record {
  x0 = h.1;
  bounds = box_floats s.options.bounded s.lower.now s.upper.now h.2 h.3;
  tol = h.0.tol;
  ftol = h.0.ftol;
  gtol = h.0.gtol;
  eps = h.0.eps;
}

reply_words : (r : Reply) (ws : List ℕ) → ReplyWord r → WordsOf ws → WordsOf (entry_words (replied r ws))
reply_words (R.Value w) ws h k = (omega arith, (h, tt))
reply_words R.Gradient ws h k = (omega arith, k)
reply_words R.NotSupplied ws h k = (omega arith, tt)
reply_words R.GoOn ws h k = (omega arith, tt)
reply_words R.Stop ws h k = (omega arith, tt)
reply_words R.Failure ws h k = (omega arith, tt)

brings : {c : Call} {w w' : Words} {o : Answer} (d : Called c w w' o) → Typed d → Brings c
brings (by_start κs a z e log l) h = setup_floats a.1.1.0 h
brings (by_restore κs a z e l) h = h
brings (by_reply κs a z e l) h = reply_words a.1.1.1.0 a.1.1.1.1.0.now h.0 h.1
brings (by_take_back κs a z e l) h = tt
brings (by_question κs a z e log l) h = tt
brings (by_report κs a z e log l) h = tt
brings (by_replies κs a z e log l) h = tt
brings (by_entry κs a z e l) h = tt
brings (by_save κs a z e l) h = tt

pub each_brings : {w w' : Words} {cs : List Call} {os : List Answer} (ch : Chain Called w cs os w') → EachTyped ch → Each Brings cs
each_brings Chain.end h = tt
each_brings (Chain.call d ds) h = (brings d h.0, each_brings ds h.1)

-- ---- the hypothesis can be met: by calls that give no option and whose words and floats are all zero

each_same : {A : Type 0} (P : A → Type 0) (x : A) → P x → (n : ℕ) → Each P (replicate n x)
each_same P x h zero = tt
each_same P x h (suc n) = (h, each_same P x h n)

zero_binary64 : Binary64 zero64
unfolding fits
zero_binary64 = tt

abbrev NoneGiven : Options → Type 0
NoneGiven o = (o.tol ≡ None) × (o.ftol ≡ None) × (o.gtol ≡ None) × (o.eps ≡ None)

pub zeros_started :
    (κs : Lfts 2) (a : Dens κs start-kinds.ps) (z : (res_t start-kinds.r κs).Denot) (e : AtExit (ended_of 2 start-kinds.ps start-kinds.r) κs)
    (log : List ℕ) (l : start-reads.Learnt κs a z e) (n : ℕ)
    → NoneGiven a.1.1.0.options → a.1.1.0.x0.now ≡ replicate n zero64 → a.1.1.0.lower.now ≡ replicate n zero64
    → a.1.1.0.upper.now ≡ replicate n zero64 → Typed (by_start κs a z e log l)
zeros_started κs a z e log l n g x low up =
    let given : (o : Option Float) → o ≡ None → Given Binary64 o = λ o h. subst (Given Binary64) (sym h) tt in
    let zeros : (v : List Float) → v ≡ replicate n zero64 → Each Binary64 v
    = λ v h. subst (Each Binary64) (sym h) (each_same Binary64 zero64 zero_binary64 n) in
    let o = a.1.1.0.options in (
      record {
        tol = given o.tol g.0;
        ftol = given o.ftol g.1;
        gtol = given o.gtol g.2;
        eps = given o.eps g.3;
      },
      zeros _ x,
      zeros _ low,
      zeros _ up,
    )

pub zeros_replied :
    (κs : Lfts 3) (a : Dens κs reply-kinds.ps) (z : (res_t reply-kinds.r κs).Denot) (e : AtExit (ended_of 3 reply-kinds.ps reply-kinds.r) κs)
    (l : reply-reads.Learnt κs a z e) (n : ℕ)
    → a.1.1.1.0 ≡ R.Value 0 → a.1.1.1.1.0.now ≡ replicate n 0 → Typed (by_reply κs a z e l)
zeros_replied κs a z e l n r g =
    (subst ReplyWord (sym r) (omega arith), subst WordsOf (sym g) (each_same (λ (w : ℕ). w < word_size) 0 (omega arith) n))

pub zeros_restored :
    (κs : Lfts 3) (a : Dens κs restore-kinds.ps) (z : (res_t restore-kinds.r κs).Denot) (e : AtExit (ended_of 3 restore-kinds.ps restore-kinds.r) κs)
    (l : restore-reads.Learnt κs a z e) (n : ℕ) → a.1.1.1.0.now ≡ replicate n 0 → Typed (by_restore κs a z e l)
zeros_restored κs a z e l n b = subst Bytes (sym b) (each_same (λ (w : ℕ). w < 256) 0 (omega arith) n)
