-- Laws of one entry: the reply of its kind, its words, and what the definition makes of it. Assumes nothing.
use mathlib.Core.Path.{◌≡◌, refl, sym, ap, ◌∙◌}
use mathlib.Core.Bool.{Bool, true, false, cond}
use mathlib.Core.List.{List, ◌∷◌, ◌++◌}
use Rattle.std.specs.Prelude.{Option, None, Some}
use Prim.Native.Nat.{ℕ, zero, suc, ◌+◌, ◌-◌, ◌≤◌, ◌<◌}
use native.Mathlib.Omega.{arith}
use Rattle.std.proofs.lemmas.Bool.{eqb-false}
use borrow.Author.Tests.{eq-eqb, ne_eqb, lt-ltb, le-ltb, lt-leb}
use lib.Dec.{eqb}
use lib.ListN.{length, get_or, take, drop, length-drop, take-append-drop}
use lib.Seq.{drop-cons, drop-drop, length-take-le}
use Rattle.definition.specs.Machine as M
use Rattle.definition.specs.Machine.{takes, check_due}
use Rattle.definition.specs.Driver as D
use Rattle.definition.specs.Log.{Entries, entry_of, entry_words, log_words, admit, next_entry}
use Rattle.definition.proofs.Entries.{words_some}
use Rattle.driver.specs.declared.Reply.{Reply}
use Rattle.driver.specs.declared.Reply.TheVariants as R
use Rattle.definition.specs.Record.{count_given}
use Rattle.record.specs.Records.{entry_size}
use Rattle.replay.specs.Taken.{replied, size_of, reply_at, gradient_at, Reads}

-- ---- the kinds

data Kind : ℕ → Type 0 where
  value : Kind 1
  gradient : Kind 2
  not_supplied : Kind 3
  go_on : Kind 4
  stop : Kind 5
  failure : Kind 6
  other : (k : ℕ) → ((n : ℕ) → entry_size k n ≡ 0) → ((n : ℕ) (ws : List ℕ) → entry_of n k ws ≡ None) → Kind k

kind : (k : ℕ) → Kind k
kind zero = Kind.other zero (λ n. refl) (λ n ws. refl)
kind (suc zero) = Kind.value
kind (suc (suc zero)) = Kind.gradient
kind (suc (suc (suc zero))) = Kind.not_supplied
kind (suc (suc (suc (suc zero)))) = Kind.go_on
kind (suc (suc (suc (suc (suc zero))))) = Kind.stop
kind (suc (suc (suc (suc (suc (suc zero)))))) = Kind.failure
kind (suc (suc (suc (suc (suc (suc (suc j))))))) =
    let k = suc (suc (suc (suc (suc (suc (suc j)))))) in
    let no : (i : ℕ) → i < 7 → eqb k i ≡ false = λ i l. ne_eqb k i (λ e. omega arith) in
    Kind.other k
    (λ n. simp (no 1 (omega arith), no 2 (omega arith), no 0 (omega arith), lt-leb k 6 (omega arith)))
    (λ n ws. simp (no 1 (omega arith), no 2 (omega arith), no 3 (omega arith), no 4 (omega arith), no 5 (omega arith), no 6 (omega arith)))

-- a length is given where there is one
pub size_given : (size l : ℕ) → Some l ≡ count_given size → (l ≡ size) × (l ≡ 0 → ⊥)
size_given size l = go (eqb size 0) refl
  where
    go : (b : Bool) → eqb size 0 ≡ b → ◌≡◌ {A = Option ℕ} (Some l) (cond b None (Some size)) → (l ≡ size) × (l ≡ 0 → ⊥)
    go true h e = cc
    go false h e = let same : l ≡ size = cc in (same, λ z. eqb-false size 0 h (sym same ∙ z))

-- the reply r stands, of kind k with ws behind it, in l words
record Spells (n k : ℕ) (ws : List ℕ) (r : Reply) (l : ℕ) : Type 0 where
  is : entry_of n k ws ≡ Some (replied r (take n ws))
  size : l ≡ size_of r n
  spelled : entry_words (replied r (take n ws)) ++ drop (l - 1) ws ≡ k ∷ ws

spells_kind : {k : ℕ} → Kind k → (n : ℕ) (ws : List ℕ) → (k ≡ 1 → ⊥) → (entry_size k n ≡ 0 → ⊥) → entry_size k n ≤ length ws + 1
    → Spells n k ws (reply_at k 0) (entry_size k n)
spells_kind Kind.value n ws one z l = absurd (one refl)
spells_kind Kind.gradient n ws one z l =
    let same : n + 1 - 1 ≡ n = omega arith in
    record {
      is = rw (le-ltb (length ws) n (omega arith));
      size = refl;
      spelled = ap (λ (i : ℕ). 2 ∷ (take n ws ++ drop i ws)) same ∙ ap (λ (r : List ℕ). 2 ∷ r) (take-append-drop n ws);
    }
spells_kind Kind.not_supplied n ws one z l = record { is = refl; size = refl; spelled = refl }
spells_kind Kind.go_on n ws one z l = record { is = refl; size = refl; spelled = refl }
spells_kind Kind.stop n ws one z l = record { is = refl; size = refl; spelled = refl }
spells_kind Kind.failure n ws one z l = record { is = refl; size = refl; spelled = refl }
spells_kind (Kind.other k size bad) n ws one z l = absurd (z (size n))

-- ---- the entry at a word

at_word : (ws : List ℕ) (at : ℕ) → at < length ws → drop at ws ≡ get_or ws at 0 ∷ drop (at + 1) ws
at_word ws at h = let e : suc at ≡ at + 1 = omega arith in drop-cons ws at 0 h ∙ ap (λ (i : ℕ). get_or ws at 0 ∷ drop i ws) e

module _ (n : ℕ) (ws : List ℕ) (at k l : ℕ) (here : at < length ws) (e : k ≡ get_or ws at 0) (size : l ≡ entry_size k n) where
  abbrev rest : List ℕ
  rest = drop (at + 1) ws

  left : length rest + 1 ≡ length ws - at
  left = omega (arith, length-drop (at + 1) ws)

  reads : (r : Reply) → 1 ≤ l → l ≤ length ws - at → Spells n k rest r l → Reads n ws at r l
  reads r any fits h =
      let on : at + 1 + (l - 1) ≡ at + l = omega arith in
      record {
        is = ap (λ (i : ℕ). entry_of n i rest) (sym e) ∙ h.is;
        size = h.size;
        within = omega arith;
        spelled =
            ap (λ (w : List ℕ). entry_words (replied r (gradient_at n ws at)) ++ w) (ap (λ (i : ℕ). drop i ws) (sym on) ∙ sym (drop-drop (l - 1) (at + 1) ws))
            ∙ h.spelled
            ∙ ap (λ (i : ℕ). i ∷ rest) e
            ∙ sym (at_word ws at here);
      }

  pub reply_at_lem : (r : Reply) → (l ≡ 0 → ⊥) → l ≤ length ws - at → (k ≡ 1 → ⊥) → r ≡ reply_at k 0 → Reads n ws at r l
  reply_at_lem r any fits one g =
      reads r (omega arith) fits
      (rw (g, size) (spells_kind (kind k) n rest one (λ z. any (size ∙ z)) (omega (arith, left))))

-- ---- its words

pub reads_count : {n : ℕ} {ws : List ℕ} {at l : ℕ} (r : Reply) → Reads n ws at r l → length (entry_words (replied r (gradient_at n ws at))) ≡ l
reads_count (R.Value v) h = sym h.size
reads_count {n} {ws} {at} R.Gradient h =
    omega (arith, h.size, h.within, length-take-le n (drop (at + 1) ws) (omega (arith, h.size, h.within, length-drop (at + 1) ws)))
reads_count R.NotSupplied h = sym h.size
reads_count R.GoOn h = sym h.size
reads_count R.Stop h = sym h.size
reads_count R.Failure h = sym h.size

size_most : (r : Reply) (n : ℕ) → size_of r n ≤ n + 2
size_most (R.Value v) n = omega arith
size_most R.Gradient n = omega arith
size_most R.NotSupplied n = omega arith
size_most R.GoOn n = omega arith
size_most R.Stop n = omega arith
size_most R.Failure n = omega arith

pub reads_most : {n : ℕ} {ws : List ℕ} {at : ℕ} {r : Reply} {l : ℕ} → Reads n ws at r l → l ≤ n + 2
reads_most {n} {r = r} h = omega (arith, h.size, size_most r n)

-- a gradient's words stand behind its kind
pub gradient_fits : (r : Reply) (n at k : ℕ) → r ≡ R.Gradient → at + size_of r n ≤ k → at + 1 + n ≤ k
gradient_fits r n at k e h = let size : size_of r n ≡ n + 1 = ap (λ (q : Reply). size_of q n) e in omega (arith, size)

-- ---- whether it is due

pub due_checked : {ws : List ℕ} {at l : ℕ} (m : M.Machine) (r : Reply) → Reads m.terms.n ws at r l
    → takes m (replied r (gradient_at m.terms.n ws at)) ≡ true → check_due m (replied r (gradient_at m.terms.n ws at)) ≡ None
due_checked m (R.Value v) h d = simp d
due_checked {ws} {at} {l} m R.Gradient h d =
    let n = m.terms.n in
    let long : length (gradient_at n ws at) ≡ n = omega (arith, h.size, reads_count R.Gradient h) in
    simp (d, eq-eqb (length (gradient_at n ws at)) n long)
due_checked m R.NotSupplied h d = simp d
due_checked m R.GoOn h d = simp d
due_checked m R.Stop h d = simp d
due_checked m R.Failure h d = simp d

-- ---- what the definition makes of it

module _ (room : ℕ) (ws : List ℕ) (rs : List M.Reply) (m : M.Machine) (at : ℕ) where
  abbrev entry : Option M.Reply
  entry = entry_of m.terms.n (get_or ws at 0) (drop (at + 1) ws)

  next_is : at < length ws → next_entry room (drop at ws) rs m ≡ admit room (drop (at + 1) ws) rs m entry
  next_is h = ap (λ (l : List ℕ). next_entry room l rs m) (at_word ws at h)

  module _ (r : Reply) (l : ℕ) (h : Reads m.terms.n ws at r l) (here : at < length ws) where
    abbrev reply : M.Reply
    reply = replied r (gradient_at m.terms.n ws at)

    next_read : next_entry room (drop at ws) rs m ≡ admit room (drop (at + 1) ws) rs m (Some reply)
    next_read = next_is here ∙ ap (admit room (drop (at + 1) ws) rs m) h.is

    pub next_undue : takes m reply ≡ false → next_entry room (drop at ws) rs m ≡ Entries.refused_at 17
    next_undue d = next_read ∙ rw d

    pub next_short : takes m reply ≡ true → at ≡ length (log_words rs) → room < at + l → next_entry room (drop at ws) rs m ≡ Entries.refused_at 12
    next_short d e s =
        next_read
        ∙ rw (due_checked m r h d, lt-ltb room (length (log_words rs) + length (entry_words reply)) (omega (arith, reads_count r h)))

    pub next_going : takes m reply ≡ true → at ≡ length (log_words rs) → at + l ≤ room
        → next_entry room (drop at ws) rs m ≡ Entries.going (drop (at + l) ws) (reply ∷ rs) (D.answer m reply)
    next_going d e s =
        let count = reads_count r h in
        let on : at + 1 + (length (entry_words reply) - 1) ≡ at + l = omega (arith, count, words_some reply) in
        let behind : drop (length (entry_words reply) - 1) (drop (at + 1) ws) ≡ drop (at + l) ws
        = drop-drop (length (entry_words reply) - 1) (at + 1) ws ∙ ap (λ (i : ℕ). drop i ws) on in
        next_read
        ∙ rw (due_checked m r h d, le-ltb room (length (log_words rs) + length (entry_words reply)) (omega (arith, count)), behind)
