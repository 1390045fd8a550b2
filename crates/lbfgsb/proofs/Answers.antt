-- The answers of `start` and `reply` with what they leave, over plain words. Assumes nothing.
use Prim.Native.Nat.{ℕ}
use native.Mathlib.Omega.{arith}
use mathlib.Core.Path.{◌≡◌, refl, sym, ap, ◌∙◌}
use mathlib.Core.Bool.{true, true≢false}
use mathlib.Core.List.{List, ◌++◌}
use Rattle.std.specs.Prelude.{None, Some}
use lib.ListN.{length, take, drop}
use lib.Ieee.{Float}
use Rattle.definition.specs.Problem as P
use Rattle.definition.specs.Problem.{Refusal, ◌then◌, validate}
use Rattle.definition.specs.Machine as M
use Rattle.definition.specs.Log.{entry_words}
use Rattle.definition.specs.Book.{Book, opened_book, with_reply}
use Rattle.definition.specs.Record.{check_area}
use Rattle.definition.specs.History as H
use Rattle.definition.specs.History.{Call, History, history_step, history_answer, check_reply}
use Rattle.fit.specs.declared.Fit.{Fit}
use Rattle.held.specs.Test.{is_held}
use Rattle.lbfgsb.specs.Words.{Words, words, lengths, Held, Holds}
use Rattle.lbfgsb.specs.Did.{Did, Refuses, Started, Moved, Replied}
use Rattle.lbfgsb.specs.Table.{check_at, reply_answer}
use Rattle.accept.specs.Moves.{written, check_said, Advances}
use Rattle.accept.proofs.Replying.{said_passed}
use Rattle.accept.proofs.Laws.{held_advanced, written_length}

unlike : (r : Refusal) → H.Answer.refused r ≡ H.Answer.done → ⊥
unlike r e = let z : ◌≡◌ {A = ℕ} 0 1 = cc in omega arith

other : (r : Refusal) → H.Answer.done ≡ H.Answer.refused r → ⊥
other r e = let z : ◌≡◌ {A = ℕ} 0 1 = cc in omega arith

-- ---- start

pub start_refused : (s : P.Setup) (w : Words) (r : Refusal) → (validate s then check_area (lengths w) s) ≡ Some r → Started s w w (H.Answer.refused r)
start_refused s w r e = record {
  did = record { sized = refl; holds = λ h k. rw e k; said = λ h k. rw e refl };
  always = rw e refl;
  refuses = λ q p. refl;
  opened = λ p. absurd (unlike r p);
  log = refl;
}

pub start_done : (s : P.Setup) (w w' : Words) → (validate s then check_area (lengths w) s) ≡ None → lengths w' ≡ lengths w → w'.log ≡ w.log
    → Held w' (opened_book s)
    → Started s w w' H.Answer.done
start_done s w w' e z l h = record {
  did = record { sized = z; holds = λ g k. rw e h; said = λ g k. rw e refl };
  always = rw e refl;
  refuses = λ q p. absurd (other q p);
  opened = λ p. h;
  log = l;
}

-- ---- reply

-- the check of a history that the words hold
check_held_lem : (w : Words) (b : Book) (r : M.Reply) → Held w b → check_reply (lengths w) b r ≡ check_at w r
check_held_lem w b r h = rw (← h.stands.is, ← h.stands.words) refl

replied_by :
    {r : M.Reply} {w w' : Words} {o : H.Answer} → Did (Call.reply r) w w' o → o ≡ reply_answer w r → Refuses o w w'
    → (o ≡ H.Answer.done → Moved r w w') → Replied r w w' o
replied_by d e k m = record { did = d; always = e; refuses = k; moved = m }

refused_holds : (w : Words) (r : M.Reply) (c : Refusal) → is_held w.state w.area ≡ true → check_at w r ≡ Some c
    → (h : History) → Holds w h → Holds w (history_step (lengths w) h (Call.reply r))
refused_holds w r c t e History.empty k = k
refused_holds w r c t e (History.fit b) k = rw (check_held_lem w b r k ∙ e) k

refused_said : (w : Words) (r : M.Reply) (c : Refusal) → is_held w.state w.area ≡ true → check_at w r ≡ Some c
    → (h : History) → Holds w h → H.Answer.refused c ≡ history_answer (lengths w) h (Call.reply r)
refused_said w r c t e History.empty k = absurd (true≢false (sym t ∙ k))
refused_said w r c t e (History.fit b) k = rw (check_held_lem w b r k ∙ e) refl

pub reply_refused : (r : M.Reply) (w : Words) (c : Refusal) → is_held w.state w.area ≡ true → check_at w r ≡ Some c → Replied r w w (H.Answer.refused c)
reply_refused r w c t e =
    replied_by (record { sized = refl; holds = refused_holds w r c t e; said = refused_said w r c t e })
    (rw (t, e) refl) (λ q p. refl) (λ p. absurd (unlike c p))

-- the words hold the fit with one more reply, whatever they held
abbrev pub OneMore : M.Reply → Words → Words → Type 0
OneMore r w w' = (b : Book) → Held w b → Held w' (with_reply r b)

done_holds : (r : M.Reply) (w w' : Words) → is_held w.state w.area ≡ true → check_at w r ≡ None → OneMore r w w'
    → (h : History) → Holds w h → Holds w' (history_step (lengths w) h (Call.reply r))
done_holds r w w' t e m History.empty k = absurd (true≢false (sym t ∙ k))
done_holds r w w' t e m (History.fit b) k = rw (check_held_lem w b r k ∙ e) (m b k)

done_said : (r : M.Reply) (w : Words) → is_held w.state w.area ≡ true → check_at w r ≡ None
    → (h : History) → Holds w h → H.Answer.done ≡ history_answer (lengths w) h (Call.reply r)
done_said r w t e History.empty k = absurd (true≢false (sym t ∙ k))
done_said r w t e (History.fit b) k = rw (check_held_lem w b r k ∙ e) refl

pub reply_done : (r : M.Reply) (w w' : Words) → is_held w.state w.area ≡ true → check_at w r ≡ None → lengths w' ≡ lengths w → Moved r w w' → OneMore r w w'
    → Replied r w w' H.Answer.done
reply_done r w w' t e z v m =
    replied_by (record { sized = z; holds = done_holds r w w' t e m; said = done_said r w t e })
    (rw (t, e) refl) (λ q p. absurd (other q p)) (λ p. v)

-- ---- the fit advanced

moved : {r : M.Reply} {t f : Fit} {a b : List Float} (l : List ℕ) → Advances r t a f b
    → Moved r (words t a l) (words f b (written t.extra.words (entry_words r) l))
moved {r} {t} {f} l h = record {
  is = h.is;
  setup = h.setup;
  entries = h.entries;
  words = h.words;
  log = ap (λ (k : ℕ). take t.extra.words l ++ entry_words r ++ drop k l) (sym h.words);
}

pub reply_advanced : (r : M.Reply) (t f : Fit) (a b : List Float) (l m : List ℕ) → is_held t a ≡ true → check_said t a (length l) r ≡ None → length b ≡ length a
    → Advances r t a f b → m ≡ written t.extra.words (entry_words r) l → Replied r (words t a l) (words f b m) H.Answer.done
reply_advanced r t f a b l m k e z h q =
    let p = said_passed t a l r e in
    let n = written_length t.extra.words (entry_words r) l p.1 in
    rw q
    (reply_done r (words t a l) (words f b (written t.extra.words (entry_words r) l)) k e (λ i. record { area = z i; log = n i }) (moved l h)
    (λ b o. held_advanced o p.0 p.1 z h))
