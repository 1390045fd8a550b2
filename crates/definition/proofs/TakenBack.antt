-- Replies taken back leave the history before them, and given again the one that was there. Assumes nothing.
use Prim.Native.Nat.{ℕ, suc, ◌+◌, ◌≤◌}
use native.Mathlib.Omega.{arith}
use mathlib.Core.Path.{◌≡◌, refl, sym, ap, ◌∙◌, subst}
use mathlib.Core.List.{List, [], ◌∷◌, ◌++◌, map, reverse, reverse_aux, reverse_aux-eq, reverse-reverse}
use Rattle.std.specs.Prelude.{None, Some}
use lib.ListN.{length, take, drop, length-reverse, length-reverse_aux, take-append-drop}
use lib.Seq.{drop_at}
use borrow.Author.Tests.{le-ltb}
use Rattle.definition.specs.Problem.{Check}
use Rattle.definition.specs.Machine.{Reply}
use Rattle.definition.specs.Log.{entry_words}
use Rattle.definition.specs.Book.{Book, book, with_reply, struck, log_of}
use Rattle.definition.specs.Record.{Lengths}
use Rattle.definition.specs.Replies.{Due}
use Rattle.definition.specs.History.{Call, Answer, History, check_reply, call_row, left_by, refused_by}
use Rattle.definition.specs.History.{history_step, history_answer, history_after, history_answers}
use Rattle.definition.specs.Sound.{Sound}
use Rattle.definition.proofs.Entries.{log_more}
use Rattle.definition.proofs.Histories.{due_struck, log_struck, reply_fits, history_sound, after_append}

-- ---- replies given and taken back

-- the book with these replies, the last of them given first
abbrev with_replies : List Reply → Book → Book
with_replies qs b = book b.setup (reverse_aux qs b.replies)

-- an accepted reply
by_done : (c : Check) (a : Answer) → refused_by c a ≡ Answer.done → c ≡ None
by_done None a e = refl
by_done (Some r) a e = cc

module _ (z : Lengths) where
  abbrev Room : Book → Type 0
  Room b = length (log_of b) ≤ z.log

  replied : (b : Book) (q : Reply) → history_answer z (History.fit b) (Call.reply q) ≡ Answer.done
      → (history_step z (History.fit b) (Call.reply q) ≡ History.fit (with_reply q b)) × Room (with_reply q b)
  replied b q e =
      let ok = by_done (check_reply z b q) Answer.done e in
      (ap (λ (c : Check). left_by c (History.fit b) (History.fit (with_reply q b))) ok, (reply_fits z b q ok).1)

  all_replied : (qs : List Reply) (b : Book) (h : History) → h ≡ History.fit b → Room b → history_answers z h (map Call.reply qs) ≡ map (λ q. Answer.done) qs
      → (history_after z h (map Call.reply qs) ≡ History.fit (with_replies qs b)) × Room (with_replies qs b)
  unfolding history_after history_answers
  all_replied [] b h same room e = (same, room)
  all_replied (q ∷ qs) b h same room e =
      let p = replied b q (ap (λ (g : History). history_answer z g (Call.reply q)) (sym same) ∙ (cc)) in
      all_replied qs (with_reply q b) (history_step z h (Call.reply q)) (ap (λ (g : History). history_step z g (Call.reply q)) same ∙ p.0) p.1 (cc)

  back_passes : (b : Book) (j : ℕ) → Room b → j ≤ length b.replies → (call_row z (History.fit b) (Call.take_back j)).check ≡ None
  back_passes b j room h = rw (le-ltb (length b.replies) j h, le-ltb z.log (length (log_of b)) room)

drop_reversed : (qs rs : List Reply) → drop (length qs) (reverse_aux qs rs) ≡ rs
drop_reversed qs rs = ap (drop (length qs)) (reverse_aux-eq qs rs) ∙ drop_at (reverse qs) rs (length qs) (length-reverse qs)

-- j accepted replies, and the last j taken back
pub taken_back : (z : Lengths) (h : History) (qs : List Reply) → history_answers z h (map Call.reply qs) ≡ map (λ q. Answer.done) qs
    → history_after z h (map Call.reply qs ++ (Call.take_back (length qs) ∷ [])) ≡ h
unfolding history_after history_answers
taken_back z History.empty [] e = refl
taken_back z History.empty (q ∷ qs) e = cc
taken_back z (History.fit b) [] e = go (call_row z (History.fit b) (Call.take_back 0)).check
  where
    go : (c : Check) → left_by c (History.fit b) (History.fit (struck 0 b)) ≡ History.fit b
    go None = refl
    go (Some r) = refl
taken_back z (History.fit b) (q ∷ qs) e =
    let h = History.fit b in
    let j = suc (length qs) in
    let p = replied z b q (cc) in
    let k = all_replied z qs (with_reply q b) (history_step z h (Call.reply q)) p.0 p.1 (cc) in
    let given = with_replies qs (with_reply q b) in
    let passes = back_passes z given j k.1 (omega (arith, length-reverse_aux qs (q ∷ b.replies))) in
    after_append z (history_step z h (Call.reply q)) (map Call.reply qs) (Call.take_back j ∷ [])
    ∙ ap (λ (g : History). history_step z g (Call.take_back j)) k.0
    ∙ ap (λ (c : Check). left_by c (History.fit given) (History.fit (struck j given))) passes
    ∙ ap (λ (rs : List Reply). History.fit (book b.setup rs)) (drop_reversed (q ∷ qs) b.replies)

-- ---- replies taken back and given again

record Again (z : Lengths) (h : History) (cs : List Call) (g : History) : Type 0 where
  history : history_after z h cs ≡ g
  answers : history_answers z h cs ≡ map (λ c. Answer.done) cs

again_step : (z : Lengths) (h : History) (c : Call) (k : History) (cs : List Call) (g : History)
    → history_step z h c ≡ k → history_answer z h c ≡ Answer.done → Again z k cs g → Again z h (c ∷ cs) g
unfolding history_after history_answers
again_step z h c k cs g step answer next = record {
  history = ap (λ (x : History). history_after z x cs) step ∙ next.history;
  answers = cc (answer, ap (λ (x : History). history_answers z x cs) step, next.answers);
}

module _ (z : Lengths) where
  reply_again : (b : Book) (q : Reply) → Due b.setup (q ∷ b.replies) → Room z (with_reply q b) → check_reply z b q ≡ None
  reply_again b q d room = rw (d.0, le-ltb z.log (length (log_of b) + length (entry_words q)) (omega (arith, log_more q b.replies)))

  all_again : (qs : List Reply) (b : Book) → Due b.setup (with_replies qs b).replies → Room z (with_replies qs b)
      → Again z (History.fit b) (map Call.reply qs) (History.fit (with_replies qs b))
  unfolding history_after history_answers
  all_again [] b d room = record { history = refl; answers = refl }
  all_again (q ∷ qs) b d room =
      let next = with_reply q b in
      let given = with_replies qs next in
      let here = drop_reversed qs next.replies in
      let due = subst (Due b.setup) here (due_struck b.setup (length qs) given.replies d) in
      let shorter : Room z (struck (length qs) given) = omega (arith, log_struck (length qs) given.replies) in
      let fits : Room z next = subst (λ (rs : List Reply). Room z (book b.setup rs)) here shorter in
      let ok = reply_again b q due fits in
      again_step z (History.fit b) (Call.reply q) (History.fit next) (map Call.reply qs) (History.fit given)
      (ap (λ (c : Check). left_by c (History.fit b) (History.fit next)) ok)
      (ap (λ (c : Check). refused_by c Answer.done) ok)
      (all_again qs next d room)

  -- the last j of a sound fit, taken back and given again in their order
  again : (b : Book) (j : ℕ) → Sound z b → j ≤ length b.replies
      → Again z (History.fit b) (Call.take_back j ∷ map Call.reply (reverse (take j b.replies))) (History.fit b)
  again b j h l =
      let rs = b.replies in
      let qs = reverse (take j rs) in
      let same : reverse_aux qs (drop j rs) ≡ rs
      = reverse_aux-eq qs (drop j rs) ∙ ap (λ (x : List Reply). x ++ drop j rs) (reverse-reverse (take j rs)) ∙ take-append-drop j rs in
      let ok = back_passes z b j h.log l in
      let room : Room z (with_replies qs (struck j b)) = subst (λ (x : List Reply). Room z (book b.setup x)) (sym same) h.log in
      again_step z (History.fit b) (Call.take_back j) (History.fit (struck j b)) (map Call.reply qs) (History.fit b)
      (ap (λ (c : Check). left_by c (History.fit b) (History.fit (struck j b))) ok)
      (ap (λ (c : Check). refused_by c Answer.done) ok)
      (subst (λ (x : List Reply). Again z (History.fit (struck j b)) (map Call.reply qs) (History.fit (book b.setup x))) same
      (all_again qs (struck j b) (subst (Due b.setup) (sym same) h.due) room))

module _ (z : Lengths) (cs : List Call) (b : Book) (e : history_after z History.empty cs ≡ History.fit b) (j : ℕ) (h : j ≤ length b.replies) where
  abbrev pub again_calls : List Call
  again_calls = Call.take_back j ∷ map Call.reply (reverse (take j b.replies))

  pub replied_again : history_after z (History.fit b) again_calls ≡ History.fit b
  replied_again = (again z b j (history_sound z cs b e) h).history

  pub replied_again_accepted : history_answers z (History.fit b) again_calls ≡ map (λ c. Answer.done) again_calls
  replied_again_accepted = (again z b j (history_sound z cs b e) h).answers
