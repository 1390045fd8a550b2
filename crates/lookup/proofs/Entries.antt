-- Laws of the log's entries: how long the one at a place is, how to skip to the next, and that the entries of due replies are read back.
-- Assumes nothing.
use Prim.Native.Nat.{ℕ, suc, ◌+◌, ◌-◌, ◌≤◌, ◌<◌}
use native.Mathlib.Omega.{arith}
use mathlib.Core.Path.{◌≡◌, refl, sym, ap, ◌∙◌}
use mathlib.Core.Bool.{Bool, true, false, cond}
use mathlib.Core.List.{List, [], ◌∷◌, ◌++◌, append_assoc, append-nil}
use borrow.Author.Tests.{eqb-true, ltb-true, ltb-false, le-ltb, ne_eqb}
use lib.Dec.{eqb, ltb}
use lib.ListN.{length, get_or, take, drop, length-append, length-drop}
use lib.Seq.{take_all, take_at, drop_at}
use Rattle.definition.specs.Problem.{Setup, Terms, dimension}
use Rattle.definition.specs.Machine.{Reply}
use Rattle.definition.specs.Driver.{run}
use Rattle.definition.specs.Log.{entry_words, log_words}
use Rattle.definition.specs.Replies.{Due}
use Rattle.definition.specs.Book.{entry_at}
use Rattle.definition.proofs.Accepted.{due_length}
use Rattle.definition.proofs.Counts.{terms_stay}
use Rattle.definition.proofs.Entries.{words_some}
use Rattle.lookup.specs.Reading.{front_entry, entry_in}

-- ---- entry k, by the entry at the front

entry_past : (n k : ℕ) (ws : List ℕ) → eqb (length (front_entry n ws)) 0 ≡ false
    → entry_in n (suc k) ws ≡ entry_in n k (drop (length (front_entry n ws)) ws)
unfolding entry_in
entry_past n k ws h = rw h

entry_stop : (n k : ℕ) (ws : List ℕ) → eqb (length (front_entry n ws)) 0 ≡ true → entry_in n (suc k) ws ≡ []
unfolding entry_in
entry_stop n k ws h = rw h

entry_here : (n : ℕ) (ws : List ℕ) → entry_in n 0 ws ≡ front_entry n ws
unfolding entry_in
entry_here n ws = refl

-- of i entries skipped, the words behind them
pub record Skipped (n k : ℕ) (ws rest : List ℕ) (i : ℕ) : Type 0 where
  pub is : entry_in n (k - i) rest ≡ entry_in n k ws

none_there : (l : List ℕ) → eqb (length l) 0 ≡ true → l ≡ []
none_there [] e = refl
none_there (w ∷ l) e = absurd (omega (arith, eqb-true (suc (length l)) 0 e))

module _ {n k i : ℕ} {ws rest : List ℕ} (h : Skipped n k ws rest i) where
  pub skipped_more : (front : List ℕ) → i < k → front ≡ front_entry n rest → false ≡ eqb (length front) 0
      → Skipped n k ws (take (length rest - length front) (drop (length front) rest)) (i + 1)
  skipped_more front l e some =
      let back : suc (k - (i + 1)) ≡ k - i = omega arith in
      rw (take_all (length rest - length front) (drop (length front) rest) (omega (arith, length-drop (length front) rest)))
      (record {
        is =
            ap (λ (f : List ℕ). entry_in n (k - (i + 1)) (drop (length f) rest)) e
            ∙ sym (entry_past n (k - (i + 1)) rest (ap (λ (f : List ℕ). eqb (length f) 0) (sym e) ∙ sym some))
            ∙ ap (λ (j : ℕ). entry_in n j rest) back
            ∙ h.is;
      })

  pub skipped_end : (front : List ℕ) → i < k → front ≡ front_entry n rest → true ≡ eqb (length front) 0 → front ≡ entry_in n k ws
  skipped_end front l e none_left =
      let back : suc (k - (i + 1)) ≡ k - i = omega arith in
      none_there front (sym none_left)
      ∙ sym (entry_stop n (k - (i + 1)) rest (ap (λ (f : List ℕ). eqb (length f) 0) (sym e) ∙ sym none_left))
      ∙ ap (λ (j : ℕ). entry_in n j rest) back
      ∙ h.is

  pub skipped_done : k ≤ i → front_entry n rest ≡ entry_in n k ws
  skipped_done l = let none_left : k - i ≡ 0 = omega arith in sym (entry_here n rest) ∙ ap (λ (j : ℕ). entry_in n j rest) (sym none_left) ∙ h.is

-- ---- the entries of due replies

module _ (s : Setup) where
  own_front : (r : Reply) (rs : List Reply) (rest : List ℕ) → Due s (r ∷ rs) → front_entry (dimension s) (entry_words r ++ rest) ≡ entry_words r
  own_front (Reply.value v) rs rest d = refl
  own_front (Reply.gradient ws) rs rest d =
      let e : length ws ≡ dimension s = due_length (run s rs) ws d.0 ∙ ap (λ (t : Terms). t.n) (terms_stay s rs d.1) in
      rw (le-ltb (length (ws ++ rest)) (dimension s) (omega (arith, length-append ws rest)), take_at ws rest (dimension s) e)
  own_front Reply.not_supplied rs rest d = refl
  own_front Reply.go_on rs rest d = refl
  own_front Reply.stop rs rest d = refl
  own_front Reply.failure rs rest d = refl

  -- all of them skipped
  log_skipped : (rs : List Reply) (j : ℕ) (rest : List ℕ) → Due s rs
      → entry_in (dimension s) (length rs + j) (log_words rs ++ rest) ≡ entry_in (dimension s) j rest
  unfolding log_words
  log_skipped [] j rest d = ap (λ (k : ℕ). entry_in (dimension s) k rest) (omega arith)
  log_skipped (r ∷ rs) j rest d =
      let n = dimension s in
      let own = own_front r rs rest d in
      let more : suc (length rs) + j ≡ length rs + suc j = omega arith in
      ap (λ (k : ℕ). entry_in n k (log_words rs ++ entry_words r ++ rest)) more
      ∙ ap (entry_in n (length rs + suc j)) (append_assoc (log_words rs) (entry_words r) rest)
      ∙ log_skipped rs (suc j) (entry_words r ++ rest) d.1
      ∙ entry_past n j (entry_words r ++ rest)
      (ne_eqb (length (front_entry n (entry_words r ++ rest))) 0 (λ e. omega (arith, ap length own, words_some r)))
      ∙ ap (λ (l : List ℕ). entry_in n j (drop (length l) (entry_words r ++ rest))) own
      ∙ ap (entry_in n j) (drop_at (entry_words r) rest (length (entry_words r)) refl)

  -- entry k is reply (count - 1 - k) from the newest
  log_entry : (rs : List Reply) (k : ℕ) (rest : List ℕ) → Due s rs → k < length rs
      → entry_in (dimension s) k (log_words rs ++ rest) ≡ entry_words (get_or rs (length rs - (k + 1)) Reply.failure)
  unfolding log_words
  log_entry [] k rest d h = absurd (omega arith)
  log_entry (r ∷ rs) k rest d h =
      ap (entry_in (dimension s) k) (append_assoc (log_words rs) (entry_words r) rest)
      ∙ go (log_entry rs k (entry_words r ++ rest) d.1) (ltb k (length rs)) refl
    where
      go : (k < length rs → entry_in (dimension s) k (log_words rs ++ (entry_words r ++ rest)) ≡ entry_words (get_or rs (length rs - (k + 1)) Reply.failure))
          → (t : Bool) → ltb k (length rs) ≡ t
          → entry_in (dimension s) k (log_words rs ++ (entry_words r ++ rest)) ≡ entry_words (get_or (r ∷ rs) (suc (length rs) - (k + 1)) Reply.failure)
      go older true e =
          let back : suc (length rs - (k + 1)) ≡ suc (length rs) - (k + 1) = omega (arith, ltb-true k (length rs) e) in
          older (ltb-true k (length rs) e) ∙ ap (λ (j : ℕ). entry_words (get_or (r ∷ rs) j Reply.failure)) back
      go older false e =
          let last : k ≡ length rs + 0 = omega (arith, ltb-false k (length rs) e) in
          let newest : 0 ≡ suc (length rs) - (k + 1) = omega arith in
          ap (λ (j : ℕ). entry_in (dimension s) j (log_words rs ++ (entry_words r ++ rest))) last
          ∙ log_skipped rs 0 (entry_words r ++ rest) d.1
          ∙ entry_here (dimension s) (entry_words r ++ rest)
          ∙ own_front r rs rest d
          ∙ ap (λ (j : ℕ). entry_words (get_or (r ∷ rs) j Reply.failure)) newest

  pub entry_read : (rs : List Reply) (k : ℕ) → Due s rs → cond (ltb k (length rs)) (entry_in (dimension s) k (log_words rs)) [] ≡ entry_at rs k
  entry_read rs k d = go (ltb k (length rs)) refl
    where
      go : (t : Bool) → ltb k (length rs) ≡ t
          → cond t (entry_in (dimension s) k (log_words rs)) [] ≡ cond t (entry_words (get_or rs (length rs - (k + 1)) Reply.failure)) []
      go true e = ap (entry_in (dimension s) k) (sym (append-nil (log_words rs))) ∙ log_entry rs k [] d (ltb-true k (length rs) e)
      go false e = refl
