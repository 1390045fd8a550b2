-- Laws of a script: one call, the calls by their words, one more of them, and the whole from an allowed start. Assumes nothing.
use Prim.Native.Nat.{ℕ, zero, suc, ◌+◌, ◌/◌, ◌≤◌, ◌<◌}
use mathlib.Core.Path.{◌≡◌, refl, sym, ap, ◌∙◌, subst}
use mathlib.Core.Bool.{true}
use mathlib.Core.List.{List, [], ◌∷◌, ◌++◌, map, map-append}
use Rattle.std.specs.Simd.{first_chunks}
use Rattle.std.proofs.Common.{take_all}
use lib.Seq.{take-suc}
use Rattle.std.specs.Prelude.{Option, None, Some, Result, Ok, Err, MatchResult, IsOkAnd}
use native.Mathlib.Numerals.{add-one}
use native.Mathlib.Omega.{arith}
use lib.ListN.{length, get_or, take, replicate}
use lib.Ieee.{Float}
use Rattle.definition.specs.Number.{zero64}
use Rattle.definition.specs.Problem as P
use Rattle.definition.specs.Problem.{validate, ◌then◌}
use Rattle.definition.specs.Record.{Reading, check_area, read_record}
use Rattle.definition.specs.Book.{Book}
use Rattle.definition.specs.History as H
use Rattle.definition.specs.History.{Call, History, refused_by, restored_answer, history_after, history_answers}
use Rattle.problem.specs.Setups.{refusal_of}
use Rattle.fit.specs.declared.Fit.{Fit}
use Rattle.fit.specs.declared.Kind.{Kind}
use Rattle.problem.specs.declared.Refusal.{Refusal}
use Rattle.question.specs.declared.Outcome.{Outcome}
use Rattle.lbfgsb.specs.Words.{Words, words, lengths, Holds}
use Rattle.definition.proofs.Histories.{is_read}
use Rattle.lbfgsb.specs.Bridge.{next, kept, asked, told, entered, saved}
use Rattle.lbfgsb.specs.Did.{Opening, Stepped, Read, Counted}
use Rattle.lbfgsb.specs.Chain.{Chain, Opens, Allowed}
use Rattle.lbfgsb.proofs.Lists.{stepped, read_did, sized, from, after, every, zeros_blank}
use Rattle.script.specs.Script.{Given, given, call_of, called, calls}
use Rattle.script.specs.Script.{ran_as, read_as, answer_of, shown, last_of, Shows, Runs}
use Rattle.script.specs.declared.Answer.{Answer}
use Rattle.script.specs.declared.Answer.TheVariants as A
use Rattle.script.specs.declared.Ran.{Ran}
use Rattle.script.specs.declared.Called.{Called}

-- ---- one call

-- the same call by another name
pub step_as : (c c' : Call) (w w' : Words) (o : H.Answer) → c ≡ c' → Stepped c' w w' o → Stepped c w w' o
step_as c c' w w' o q d = subst (λ (x : Call). Stepped x w w' o) (sym q) d

changed_go :
    (c : Call) (f : Fit) (w : Words) (a' : List Float) (l' : List ℕ) (z : Result Fit Refusal) (p : List Float) (fo b : List ℕ)
    → Stepped c w (words (next f z) a' l') (kept z)
    → Shows c w (words (ran_as f z).fit a' l') (shown (ran_as f z).last (ran_as f z).fit.shape.n p fo b)
changed_go c f w a' l' (Ok g) p fo b d = record { answer = H.Answer.done; is = refl; step = d }
changed_go c f w a' l' (Err n) p fo b d = record { answer = H.Answer.refused (refusal_of n); is = refl; step = d }

-- a call that changes the words
pub changed_shows :
    (c c' : Call) (f : Fit) (w : Words) (a' : List Float) (l' : List ℕ) (z : Result Fit Refusal) (r : Ran) (p : List Float) (fo b : List ℕ)
    → c ≡ c' → r ≡ ran_as f z → Stepped c' w (words (next f z) a' l') (kept z)
    → Shows c w (words r.fit a' l') (shown r.last r.fit.shape.n p fo b)
changed_shows c c' f w a' l' z r p fo b q e d =
    subst (λ (x : Ran). Shows c w (words x.fit a' l') (shown x.last x.fit.shape.n p fo b)) (sym e)
    (changed_go c f w a' l' z p fo b (step_as c c' w (words (next f z) a' l') (kept z) q d))

-- a call that leaves them
pub read_shows :
    {X : Type 0} (c : Call) (f : Fit) (a : List Float) (l : List ℕ) (z : Result Answer Refusal) (r : Ran) (p : List Float) (fo b : List ℕ) (o : H.Answer)
    (out out' : List X) → is_read c ≡ true → Opening c (words f a l) (words f a l) o → r ≡ read_as f z → answer_of z f.shape.n p fo b ≡ o
    → Read c (words f a l) o out out' → Shows c (words f a l) (words r.fit a l) (shown r.last r.fit.shape.n p fo b)
read_shows c f a l z r p fo b o out out' reads opens e is d =
    let w = words f a l in
    let step : Stepped c w w o = record { did = read_did reads d.said; opening = opens } in
    subst (λ (x : Ran). Shows c w (words x.fit a l) (shown x.last x.fit.shape.n p fo b)) (sym e)
    (record { answer = o; is = ap (λ (x : H.Answer). Some x) is; step = step })

pub count_shows : (f : Fit) (a : List Float) (l : List ℕ) (k : ℕ) (r : Ran) (p : List Float) (fo b : List ℕ) → r ≡ read_as f (Ok (A.Counted k))
    → Counted k (words f a l) → Shows Call.replies (words f a l) (words r.fit a l) (shown r.last r.fit.shape.n p fo b)
count_shows f a l k r p fo b e d =
    let w = words f a l in
    let step : Stepped Call.replies w w (H.Answer.counted k) = record { did = read_did refl d.said; opening = tt } in
    subst (λ (x : Ran). Shows Call.replies w (words x.fit a l) (shown x.last x.fit.shape.n p fo b)) (sym e)
    (record { answer = H.Answer.counted k; is = refl; step = step })

-- what a read answers, of the variant v
abbrev pub Maps : {T : Type 0} → (T → Answer) → Result T Refusal → Result Answer Refusal → Type 0
Maps v q z = MatchResult q (λ x. IsOkAnd z (λ y. y ≡ v x)) (λ e. z ≡ Err e)

pub shown_asked : (q : Result (Option Kind) Refusal) (z : Result Answer Refusal) (n : ℕ) (p : List Float) (f b : List ℕ) → Maps A.Asked q z
    → answer_of z n p f b ≡ asked q n p
shown_asked (Ok None) (Ok y) n p f b h = rw h refl
shown_asked (Ok (Some k)) (Ok y) n p f b h = rw h refl
shown_asked (Ok x) (Err c) n p f b h = absurd h
shown_asked (Err c) z n p f b h = rw h refl

pub shown_told : (t : Result Outcome Refusal) (z : Result Answer Refusal) (n : ℕ) (p : List Float) (f b : List ℕ) → Maps A.Reported t z
    → answer_of z n p f b ≡ told t n p
shown_told (Ok x) (Ok y) n p f b h = rw h refl
shown_told (Ok x) (Err c) n p f b h = absurd h
shown_told (Err c) z n p f b h = rw h refl

pub shown_entered : (w : Result ℕ Refusal) (z : Result Answer Refusal) (n : ℕ) (p : List Float) (f b : List ℕ) → Maps A.Entered w z
    → answer_of z n p f b ≡ entered w f
shown_entered (Ok x) (Ok y) n p f b h = rw h refl
shown_entered (Ok x) (Err c) n p f b h = absurd h
shown_entered (Err c) z n p f b h = rw h refl

pub shown_saved : (w : Result ℕ Refusal) (z : Result Answer Refusal) (n : ℕ) (p : List Float) (f b : List ℕ) → Maps A.Saved w z
    → answer_of z n p f b ≡ saved w b
shown_saved (Ok x) (Ok y) n p f b h = rw h refl
shown_saved (Ok x) (Err c) n p f b h = absurd h
shown_saved (Err c) z n p f b h = rw h refl

-- ---- the calls by their words

abbrev pub call_in : Given → List ℕ → Call
call_in g ws = call_of g (called (get_or ws 0 0) (get_or ws 1 0) (get_or ws 2 0))

-- the calls of their words
abbrev pub calls_in : Given → List (List ℕ) → List Call
calls_in g = map (call_in g)

calls_all : (g : Given) (s : List ℕ) (k : ℕ) → k ≡ length s / 3 → calls_in g (first_chunks 3 k s) ≡ calls g s
unfolding calls
calls_all g [] zero e = refl
calls_all g [] (suc k) e = absurd (omega arith)
calls_all g (op ∷ []) zero e = refl
calls_all g (op ∷ []) (suc k) e = absurd (omega arith)
calls_all g (op ∷ a ∷ []) zero e = refl
calls_all g (op ∷ a ∷ []) (suc k) e = absurd (omega arith)
calls_all g (op ∷ a ∷ b ∷ s) zero e = absurd (omega arith)
calls_all g (op ∷ a ∷ b ∷ s) (suc k) e = ap (λ (cs : List Call). call_of g (called op a b) ∷ cs) (calls_all g s k (omega arith))

-- ---- one call more

-- all that is claimed of a chain of steps
runs : {cs : List Call} {w w' : Words} {o : Option H.Answer} (os : List H.Answer) → Chain Stepped w cs os w' → o ≡ last_of None os → Runs cs w w' o
runs {w = w} os ch e = record {
  answers = os;
  steps = ch;
  last = e;
  sized = sized stepped ch;
  after = λ h k. from stepped ch (lengths w) h refl k;
  allowed = λ p. after stepped p ch;
  demand = λ p. every stepped p ch;
}

last_one : (p : Option H.Answer) (os : List H.Answer) (o : H.Answer) → last_of p (os ++ (o ∷ [])) ≡ Some o
last_one p [] o = refl
last_one p (q ∷ os) o = last_one (Some q) os o

chain_one :
    {cs : List Call} {os : List H.Answer} {c : Call} {o : H.Answer} {w w' w'' : Words} → Chain Stepped w cs os w' → Stepped c w' w'' o
    → Chain Stepped w (cs ++ (c ∷ [])) (os ++ (o ∷ [])) w''
chain_one Chain.end d = Chain.call d Chain.end
chain_one (Chain.call e ds) d = Chain.call e (chain_one ds d)

ran_one :
    (cs : List Call) (c : Call) (w w' w'' : Words) (o o' : Option H.Answer) → Runs cs w w' o → Shows c w' w'' o' → Runs (cs ++ (c ∷ [])) w w'' o'
ran_one cs c w w' w'' o o' r d =
    runs (r.answers ++ (d.answer ∷ [])) (chain_one r.steps d.step) (d.is ∙ sym (last_one None r.answers d.answer))

-- the outputs keep their lengths
pub given_same :
    (s : P.Setup) (gs input : List ℕ) (p p' f f' b b' : ℕ) → p' ≡ p → f' ≡ f → b' ≡ b → given s gs input p' f' b' ≡ given s gs input p f b
given_same s gs input p p' f f' b b' e₁ e₂ e₃ =
    ap (λ (x : ℕ). given s gs input x f' b') e₁ ∙ ap (λ (x : ℕ). given s gs input p x b') e₂ ∙ ap (λ (x : ℕ). given s gs input p f x) e₃

pub ran_none : (w : Words) → Runs [] w w None
ran_none w = runs [] Chain.end refl

pub ran_more :
    (g g' : Given) (css : List (List ℕ)) (i : ℕ) (k : Called) (w w' w'' : Words) (o o' : Option H.Answer) → g' ≡ g → i < length css
    → k ≡ (let ws = get_or css i [] in called (get_or ws 0 0) (get_or ws 1 0) (get_or ws 2 0))
    → Runs (calls_in g (take i css)) w w' o → Shows (call_of g' k) w' w'' o' → Runs (calls_in g (take (i + 1) css)) w w'' o'
ran_more g g' css i k w w' w'' o o' e h q r d =
    let ws = get_or css i [] in
    rw (add-one, take-suc css i [] h, map-append)
    (ran_one (calls_in g (take i css)) (call_in g ws) w w' w'' o o' r
    (subst (λ (x : Call). Shows x w' w'' o') (ap (call_of g') q ∙ ap (λ (x : Given). call_in x ws) e) d))

-- all calls
pub ran_all : (g : Given) (s : List ℕ) (css : List (List ℕ)) (i : ℕ) (w w' : Words) (o : Option H.Answer) → css ≡ first_chunks 3 (length s / 3) s
    → length css ≤ i → Runs (calls_in g (take i css)) w w' o → Runs (calls g s) w w' o
ran_all g s css i w w' o e h d =
    subst (λ (cs : List Call). Runs cs w w' o) (ap (calls_in g) (take_all i css h ∙ e) ∙ calls_all g s (length s / 3) refl) d

-- ---- a script from an allowed start

-- what a caller sees: the words after and the answer shown are those of the history that starts empty
pub from_allowed :
    (cs : List Call) (w w' : Words) (o : Option H.Answer) (r : Runs cs w w' o) → Allowed w cs r.answers
    → Holds w' (history_after (lengths w) History.empty cs) × (o ≡ last_of None (history_answers (lengths w) History.empty cs))
from_allowed cs w w' o r p = ((r.allowed p).holds, r.last ∙ ap (last_of None) (r.allowed p).said)

-- an area of zeros holds no fit
pub from_zeros :
    (cs : List Call) (f : Fit) (k : ℕ) (l : List ℕ) (w' : Words) (o : Option H.Answer) → Runs cs (words f (replicate k zero64) l) w' o
    → Holds w' (history_after (lengths w') History.empty cs) × (o ≡ last_of None (history_answers (lengths w') History.empty cs))
from_zeros cs f k l w' o r =
    let w = words f (replicate k zero64) l in
    rw r.sized (from_allowed cs w w' o r (Allowed.blank (zeros_blank w k refl)))

-- from any words: a first call that the definition accepts opens a fit
pub start_allowed :
    {s : P.Setup} {cs : List Call} {os : List H.Answer} {w w' : Words} → Chain Stepped w (Call.start s ∷ cs) os w'
    → (validate s then check_area (lengths w) s) ≡ None → Allowed w (Call.start s ∷ cs) os
start_allowed {s} {cs} {w = w} (Chain.call {os = os} d ds) e =
    subst (λ (o : H.Answer). Allowed w (Call.start s ∷ cs) (o ∷ os)) (sym (d.opening.always ∙ ap (λ (c : P.Check). refused_by c H.Answer.done) e))
    (Allowed.opens Opens.started)

pub restore_allowed :
    {bs : List ℕ} {b : Book} {cs : List Call} {os : List H.Answer} {w w' : Words} → Chain Stepped w (Call.restore bs ∷ cs) os w'
    → read_record (lengths w) bs ≡ Reading.accepted b → Allowed w (Call.restore bs ∷ cs) os
restore_allowed {bs} {cs = cs} {w = w} (Chain.call {os = os} d ds) e =
    subst (λ (o : H.Answer). Allowed w (Call.restore bs ∷ cs) (o ∷ os)) (sym (d.opening.always ∙ ap restored_answer e)) (Allowed.opens Opens.restored)
