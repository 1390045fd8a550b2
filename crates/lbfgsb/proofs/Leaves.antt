-- After every list of calls that the history follows a refused call leaves every word, but for a reading in refused at an entry, which leaves the area all
-- zero: no taking back is refused at one. What any call leaves at any words stands in Exact. Assumes nothing.
use Prim.Native.Nat.{ℕ}
use native.Mathlib.Omega.{arith}
use mathlib.Core.Path.{◌≡◌, refl, sym, ap, ◌∙◌, subst}
use mathlib.Core.Bool.{Bool, true, false, false≢true, cond, ◌&&◌}
use mathlib.Core.List.{List}
use Rattle.std.specs.Prelude.{Option, None, Some}
use lib.Dec.{ltb}
use lib.ListN.{length}
use Rattle.definition.specs.Problem.{Refusal, Check, refuse, when, ◌then◌}
use Rattle.definition.specs.Machine.{Reply}
use Rattle.definition.specs.Book.{log_of}
use Rattle.definition.specs.Record.{Lengths, plain_refusal}
use Rattle.definition.specs.Sound.{refused_at_entry}
use Rattle.definition.specs.History.{Call, Answer, History, refused_by, history_answer, history_after}
use Rattle.held.specs.Test.{is_held}
use Rattle.lbfgsb.specs.Words.{Words, lengths, Holds}
use Rattle.lbfgsb.specs.Table.{check_back, replies_left, stay_answer, answer_at, is_none, entry_refused, zeroed}
use Rattle.lbfgsb.specs.Chain.{Chain, Allowed, Exact, Leaves}
use Rattle.lbfgsb.proofs.Trace.{Called, did, after}
use Rattle.lbfgsb.proofs.Exact.{exact}

-- ---- a taking back

abbrev number_of : Answer → ℕ
number_of (Answer.refused r) = r.number
number_of Answer.done = 0
number_of (Answer.asked q) = 0
number_of (Answer.reported r) = 0
number_of (Answer.counted k) = 0
number_of (Answer.entered ws) = 0
number_of (Answer.saved bs) = 0

-- in a history none is refused by 17
no_17 : (z : Lengths) (h : History) (j : ℕ) → history_answer z h (Call.take_back j) ≡ Answer.refused (plain_refusal 17) → ⊥
no_17 z History.empty j e = go (ltb 0 j) (ap number_of e)
  where
    go : (t : Bool) → number_of (refused_by (when t (refuse 16 0 0)) Answer.done) ≡ 17 → ⊥
    go true q = omega (arith, q)
    go false q = omega (arith, q)
no_17 z (History.fit b) j e = go (ltb (length b.replies) j) (ltb z.log (length (log_of b))) (ap number_of e)
  where
    go : (t u : Bool) → number_of (refused_by (when t (refuse 16 0 0) then when u (refuse 12 0 0)) Answer.done) ≡ 17 → ⊥
    go true u q = omega (arith, q)
    go false true q = omega (arith, q)
    go false false q = omega (arith, q)

-- refused at an entry, it is refused by 17
entry_17 : (w : Words) (j : ℕ) → entry_refused (Call.take_back j) w ≡ true → answer_at (Call.take_back j) w ≡ Answer.refused (plain_refusal 17)
entry_17 w j e = go (is_held w.state w.area) (check_back w j) (replies_left j w) e
  where
    go : (b : Bool) (c : Check) (q : Option (List Reply)) → b && is_none c && is_none q ≡ true
        → refused_by c (cond b (stay_answer q) Answer.done) ≡ Answer.refused (plain_refusal 17)
    go true None None e = refl
    go true None (Some rs) e = absurd (false≢true e)
    go true (Some r) q e = absurd (false≢true e)
    go false c q e = absurd (false≢true e)

never_at_entry :
    {j : ℕ} {w w' : Words} {o : Answer} → Called (Call.take_back j) w w' o → (h : History) → Holds w h → entry_refused (Call.take_back j) w ≡ false
never_at_entry {j} {w} {w'} {o} d h k = go (entry_refused (Call.take_back j) w) refl
  where
    go : (b : Bool) → entry_refused (Call.take_back j) w ≡ b → b ≡ false
    go false e = refl
    go true e = absurd (no_17 (lengths w) h j (sym ((did d).said h k) ∙ (exact d).answer ∙ entry_17 w j e))

-- ---- each call

leaves_by : {c : Call} {w w' : Words} {r : Refusal} → Exact c w w' (Answer.refused r) → entry_refused c w ≡ refused_at_entry (lengths w) c → Leaves c w w'
leaves_by {c} {w} {w'} x e =
    let left : w' ≡ cond (refused_at_entry (lengths w) c) (zeroed w) w = subst (λ (b : Bool). w' ≡ cond b (zeroed w) w) e (x.refused refl) in
    record { kept = λ f. subst (λ (b : Bool). w' ≡ cond b (zeroed w) w) f left; zeroed = λ t. subst (λ (b : Bool). w' ≡ cond b (zeroed w) w) t left }

leaves : (c : Call) {w w' : Words} {r : Refusal} → Called c w w' (Answer.refused r) → (h : History) → Holds w h → Leaves c w w'
leaves (Call.start s) d h k = leaves_by (exact d) refl
leaves (Call.restore bs) d h k = leaves_by (exact d) refl
leaves (Call.reply r) d h k = leaves_by (exact d) refl
leaves (Call.take_back j) d h k = leaves_by (exact d) (never_at_entry d h k)
leaves (Call.question room) d h k = leaves_by (exact d) refl
leaves (Call.report room) d h k = leaves_by (exact d) refl
leaves Call.replies d h k = leaves_by (exact d) refl
leaves (Call.entry i room) d h k = leaves_by (exact d) refl
leaves (Call.save room) d h k = leaves_by (exact d) refl

-- after every list of calls, for the next one
pub refused_leaves_words :
    {w w' v : Words} {cs : List Call} {os : List Answer} {c : Call} {r : Refusal}
    → Allowed w cs os → Chain Called w cs os w' → Called c w' v (Answer.refused r) → Leaves c w' v
refused_leaves_words {w} {cs = cs} {c = c} p ch d = leaves c d (history_after (lengths w) History.empty cs) (after p ch).holds
