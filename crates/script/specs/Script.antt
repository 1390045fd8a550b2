-- A script: the list of calls that its words are, and what running it leaves and answers, by the history.
use Rattle.std.specs.Prelude.{ℕ, ◌+◌, ◌≡◌, cond, List, [], ◌∷◌, eqb, ltb, leb, length, take, drop, Float}
use Rattle.std.specs.Prelude.{Option, None, Some, Result, Ok, Err}
use Rattle.definition.specs.Problem as P
use Rattle.definition.specs.History as H
use Rattle.definition.specs.History.{Call, History}
use Rattle.problem.specs.Setups.{setup_of, refusal_of}
use Rattle.problem.specs.declared.Refusal.{Refusal}
use Rattle.fit.specs.declared.Fit.{Fit}
use Rattle.fit.specs.State.{kind_number}
use Rattle.question.specs.Reports.{report_of}
use Rattle.driver.specs.Replies.{reply_at}
use Rattle.lbfgsb.specs.Words.{Words, lengths, Holds}
use Rattle.lbfgsb.specs.Bridge.{replied, first_of}
use Rattle.lbfgsb.specs.Did.{Stepped}
use Rattle.lbfgsb.specs.Chain.{Chain, Allowed, After, Demand}
use Rattle.script.specs.declared.Answer.{Answer}
use Rattle.script.specs.declared.Answer.TheVariants as A
use Rattle.script.specs.declared.Ran.{Ran}
use Rattle.script.specs.declared.Inputs.{Inputs}
use Rattle.script.specs.declared.Part.{Part}
use Rattle.script.specs.declared.Called.{Called}
use Rattle.script.specs.declared.Called.TheVariants as C

-- ---- the arguments of a call

-- b elements from a on; none where they are not all there
abbrev pub part_of : {A : Type 0} → ℕ → ℕ → List A → List A
part_of a b s = cond (leb (a + b) (length s)) (take b (drop a s)) []

-- ---- the calls

-- what the calls of a script are given beside their words: setup, slices, and the lengths of the outputs
pub record Given : Type 0 where
  pub setup : P.Setup
  pub gradients : List ℕ
  pub input : List ℕ
  pub point : ℕ
  pub found : ℕ
  pub bytes : ℕ

abbrev pub given : P.Setup → List ℕ → List ℕ → ℕ → ℕ → ℕ → Given
given s gs i p f b = record { setup = s; gradients = gs; input = i; point = p; found = f; bytes = b }

-- those of the code
abbrev pub given_of : Inputs → ℕ → ℕ → ℕ → Given
given_of inputs p f b = given (setup_of inputs.setup) inputs.gradients.now inputs.records.now p f b

abbrev pub part : ℕ → ℕ → Part
part from count = record { from = from; count = count }

-- the call of an op and two arguments
abbrev pub called : ℕ → ℕ → ℕ → Called
called op a b =
    cond (eqb op 0) C.Start
    (cond (ltb op 7) (C.Reply (reply_at op a) (part a b))
    (cond (eqb op 7) (C.TakeBack a)
    (cond (eqb op 8) (C.Restore (part a b))
    (cond (eqb op 9) C.Question
    (cond (eqb op 10) C.Report
    (cond (eqb op 11) C.Replies
    (cond (eqb op 12) (C.Entry a) C.Save)))))))

-- the history's call: its vectors by the parts, its room by the lengths of the outputs
abbrev pub call_of : Given → Called → Call
call_of g C.Start = Call.start g.setup
call_of g (C.Reply r p) = Call.reply (replied r (part_of p.from p.count g.gradients))
call_of g (C.TakeBack j) = Call.take_back j
call_of g (C.Restore p) = Call.restore (part_of p.from p.count g.input)
call_of g C.Question = Call.question g.point
call_of g C.Report = Call.report g.point
call_of g C.Replies = Call.replies
call_of g (C.Entry k) = Call.entry k g.found
call_of g C.Save = Call.save g.bytes

-- the calls of a script, three words each; words past the last call count for nothing
unfoldable pub calls : Given → List ℕ → List Call
calls g [] = []
calls g (op ∷ []) = []
calls g (op ∷ a ∷ []) = []
calls g (op ∷ a ∷ b ∷ s) = call_of g (called op a b) ∷ calls g s

-- ---- answers

-- the state and the last answer, after a call that changes the words and after one that reads them
abbrev pub ran_as : Fit → Result Fit Refusal → Ran
ran_as f (Ok g) = record { fit = g; last = Some (Ok A.Done) }
ran_as f (Err c) = record { fit = f; last = Some (Err c) }

abbrev pub read_as : Fit → Result Answer Refusal → Ran
read_as f r = record { fit = f; last = Some r }

-- the history's answer: n coordinates, words or bytes from the front of the outputs
abbrev pub answer_of : Result Answer Refusal → ℕ → List Float → List ℕ → List ℕ → H.Answer
answer_of (Err c) n point found bytes = H.Answer.refused (refusal_of c)
answer_of (Ok A.Done) n point found bytes = H.Answer.done
answer_of (Ok (A.Asked None)) n point found bytes = H.Answer.asked None
answer_of (Ok (A.Asked (Some k))) n point found bytes = H.Answer.asked (Some (record { kind = kind_number (Some k); point = take n point }))
answer_of (Ok (A.Reported o)) n point found bytes = H.Answer.reported (report_of o (take n point))
answer_of (Ok (A.Counted k)) n point found bytes = H.Answer.counted k
answer_of (Ok (A.Entered k)) n point found bytes = H.Answer.entered (first_of k found)
answer_of (Ok (A.Saved k)) n point found bytes = H.Answer.saved (first_of k bytes)

-- where there is one
abbrev pub shown : Option (Result Answer Refusal) → ℕ → List Float → List ℕ → List ℕ → Option H.Answer
shown None n point found bytes = None
shown (Some r) n point found bytes = Some (answer_of r n point found bytes)

-- the last of a list of answers, after o
abbrev pub last_of : Option H.Answer → List H.Answer → Option H.Answer
last_of o [] = o
last_of o (p ∷ os) = last_of (Some p) os

-- ---- what calls do

-- the call c at the words w left w' and showed o
pub record Shows (c : Call) (w w' : Words) (o : Option H.Answer) : Type 0 where
  pub answer : H.Answer
  pub is : o ≡ Some answer
  pub step : Stepped c w w' answer

-- The calls cs from the words w on left w', and o is shown at the end: the claim of the theorem on every list of calls, of the calls that were made.
pub record Runs (cs : List Call) (w w' : Words) (o : Option H.Answer) : Type 0 where
  -- all answers, one a call, in the order of the calls
  pub answers : List H.Answer
  -- each call at the words that the last one left; for an opening or a reading in, `Stepped` says what it does at any words
  pub steps : Chain Stepped w cs answers w'
  -- what is shown is the last answer, or nothing where there is no call
  pub last : o ≡ last_of None answers
  -- area and log keep their lengths, whatever the words are
  pub sized : lengths w' ≡ lengths w
  -- whatever history the words hold: every answer is the history's, and the words after hold the history after the calls
  pub after : (h : History) → Holds w h → After (lengths w) h cs answers w'
  -- the same of the empty history, from an area all zero, or from any words where the list begins with an accepted opening or reading in
  pub allowed : Allowed w cs answers → After (lengths w) History.empty cs answers w'
  -- and there the theorem's claim: whether a fit is held, what calls find in the words after, and what any further list is answered
  pub demand : Allowed w cs answers → Demand Stepped w cs answers w'
