-- Laws of one more reply: its entry in the log, and the fit that holds it. Assumes nothing.
use Prim.Native.Nat.{ℕ, ◌+◌, ◌≤◌}
use native.Mathlib.Omega.{arith}
use mathlib.Core.Path.{◌≡◌, sym, ap, ◌∙◌}
use mathlib.Core.List.{List, ◌++◌}
use Rattle.std.specs.Prelude.{None}
use lib.ListN.{length, take, drop, length-append}
use lib.Seq.{take_at, length-take-le, sets-eq, length-sets}
use lib.Ieee.{Float}
use Rattle.definition.specs.Machine as M
use Rattle.definition.specs.Machine.{Machine, check_due}
use Rattle.definition.specs.Driver.{run, answer}
use Rattle.definition.specs.Log.{entry_words, log_words}
use Rattle.definition.specs.Book.{Book, with_reply}
use Rattle.definition.proofs.Entries.{log_more}
use Rattle.fit.specs.State.{machine_of}
use Rattle.fit.specs.declared.Fit.{Fit}
use Rattle.held.specs.Words.{words, Held}
use Rattle.accept.specs.Moves.{written, Advances}
use Rattle.held.proofs.Laws.{Reached, reached_held, held_reached}

-- ---- the log

-- the log up to the entry's end
pub logged : (at : ℕ) (l ws : List ℕ) → at ≤ length l → take (at + length ws) (written at ws l) ≡ take at l ++ ws
logged at l ws h =
    take_at (take at l ++ ws) (drop (at + length ws) l) (at + length ws) (length-append (take at l) ws ∙ ap (λ (k : ℕ). k + length ws) (length-take-le at l h))

pub written_length : (at : ℕ) (ws l : List ℕ) → at + length ws ≤ length l → length (written at ws l) ≡ length l
written_length at ws l h = ap length (sym (sets-eq ws l at h)) ∙ length-sets l at ws

-- ---- one more reply

pub reached_advanced : {r : M.Reply} {t f : Fit} {a b : List Float} {k : Book}
    → Reached t a k → check_due (machine_of t a) r ≡ None → length b ≡ length a → Advances r t a f b → Reached f b (with_reply r k)
unfolding run
reached_advanced {r} {t} {f} {a} {b} {k} h d z v = record {
  accepted = h.accepted;
  due = (ap (λ (m : Machine). check_due m r) (sym h.is) ∙ d, h.due);
  setup = v.setup ∙ h.setup;
  is = v.is ∙ ap (λ (m : Machine). answer m r) h.is;
  sound = rw z v.sound;
  area = rw z h.area;
  settled = v.settled h.settled;
  entries = omega (arith, v.entries, h.entries);
  words = omega (arith, v.words, h.words, log_more r k.replies);
}

-- it is held, its entry written into the log
pub held_advanced : {r : M.Reply} {t f : Fit} {a b : List Float} {l : List ℕ} {k : Book}
    → Held (words t a l) k → check_due (machine_of t a) r ≡ None → t.extra.words + length (entry_words r) ≤ length l → length b ≡ length a → Advances r t a f b
    → Held (words f b (written t.extra.words (entry_words r) l)) (with_reply r k)
unfolding log_words
held_advanced {r} {t} {f} {a} {b} {l} h d w z v =
    reached_held (reached_advanced (held_reached h) d z v) v.mark
    (rw (written_length t.extra.words (entry_words r) l w) (omega (arith, v.words)))
    (rw v.words (logged t.extra.words l (entry_words r) h.stands.room) ∙ ap (λ (q : List ℕ). q ++ entry_words r) h.stands.log)
