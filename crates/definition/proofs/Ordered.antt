-- The book's replies in the order given: an accepted one is added at the end, the last j are struck, and machine, log and entries are theirs
-- in that order. Assumes nothing.
use Prim.Native.Nat.{ℕ, zero, suc, ◌+◌, ◌-◌, ◌<◌}
use native.Mathlib.Nat.{eq-or-lt_of_le, le_of_suc-le-suc}
use native.Mathlib.Omega.{arith}
use mathlib.Core.Path.{◌≡◌, refl, sym, ap, ap₂, ◌∙◌}
use mathlib.Core.Logic.{◌⊎◌, inl, inr}
use mathlib.Core.Bool.{Bool, true, false, cond}
use mathlib.Core.List.{List, [], ◌∷◌, ◌++◌, reverse, reverse-cons, append-nil, append_assoc}
use lib.Dec.{ltb}
use lib.ListN.{length, take, drop, get_or, length-reverse, get_or-append}
use lib.Seq.{take_all, take-append-le, get_or_at}
use borrow.Author.Tests.{ltb-true}
use Rattle.definition.specs.Problem.{Setup}
use Rattle.definition.specs.Machine.{Reply, Machine}
use Rattle.definition.specs.Driver.{answer, begin, run}
use Rattle.definition.specs.Log.{entry_words, log_words}
use Rattle.definition.specs.Book.{Book, entry_at}
use Rattle.definition.specs.Ordered.{run_from, run_in_order, log_in_order, entry_in_order, InOrder}

-- ---- replies turned round

run_append : (m : Machine) (rs : List Reply) (r : Reply) → run_from m (rs ++ (r ∷ [])) ≡ answer (run_from m rs) r
run_append m [] r = refl
run_append m (q ∷ rs) r = run_append (answer m q) rs r

run_is : (s : Setup) (rs : List Reply) → run_in_order s (reverse rs) ≡ run s rs
unfolding run
run_is s [] = refl
run_is s (r ∷ rs) = ap (run_in_order s) (reverse-cons r rs) ∙ run_append (begin s) (reverse rs) r ∙ ap (λ (m : Machine). answer m r) (run_is s rs)

log_append : (rs : List Reply) (r : Reply) → log_in_order (rs ++ (r ∷ [])) ≡ log_in_order rs ++ entry_words r
log_append [] r = append-nil (entry_words r)
log_append (q ∷ rs) r = ap (λ (l : List ℕ). entry_words q ++ l) (log_append rs r) ∙ sym (append_assoc (entry_words q) (log_in_order rs) (entry_words r))

log_is : (rs : List Reply) → log_in_order (reverse rs) ≡ log_words rs
unfolding log_words
log_is [] = refl
log_is (r ∷ rs) = ap log_in_order (reverse-cons r rs) ∙ log_append (reverse rs) r ∙ ap (λ (l : List ℕ). l ++ entry_words r) (log_is rs)

struck_is : (j : ℕ) (rs : List Reply) → take (length rs - j) (reverse rs) ≡ reverse (drop j rs)
struck_is zero rs = take_all (length rs - 0) (reverse rs) (omega (arith, length-reverse rs))
struck_is (suc j) [] = let e : 0 - suc j ≡ 0 = omega arith in ap (λ (n : ℕ). take n (reverse [])) e
struck_is (suc j) (r ∷ rs) =
    let e : suc (length rs) - suc j ≡ length rs - j = omega arith in
    ap₂ (λ (n : ℕ) (l : List Reply). take n l) e (reverse-cons r rs)
    ∙ take-append-le (length rs - j) (reverse rs) (r ∷ []) (omega (arith, length-reverse rs))
    ∙ struck_is j rs

reply_at_lem : (rs : List Reply) (k : ℕ) (d : Reply) → k < length rs → get_or (reverse rs) k d ≡ get_or rs (length rs - (k + 1)) d
reply_at_lem [] k d h = absurd (omega arith)
reply_at_lem (r ∷ rs) k d h =
    ap (λ (l : List Reply). get_or l k d) (reverse-cons r rs) ∙ go (reply_at_lem rs k d) (eq-or-lt_of_le (le_of_suc-le-suc h))
  where
    go : (k < length rs → get_or (reverse rs) k d ≡ get_or rs (length rs - (k + 1)) d) → (k ≡ length rs) ⊎ (k < length rs)
        → get_or (reverse rs ++ (r ∷ [])) k d ≡ get_or (r ∷ rs) (suc (length rs) - (k + 1)) d
    go ih (inl e) =
        let at : suc (length rs) - (k + 1) ≡ 0 = omega arith in
        get_or_at (reverse rs) r [] d k (length-reverse rs ∙ sym e) ∙ ap (λ (i : ℕ). get_or (r ∷ rs) i d) (sym at)
    go ih (inr l) =
        let at : suc (length rs) - (k + 1) ≡ suc (length rs - (k + 1)) = omega arith in
        get_or-append (reverse rs) (r ∷ []) d k (omega (arith, length-reverse rs)) ∙ ih l ∙ ap (λ (i : ℕ). get_or (r ∷ rs) i d) (sym at)

entry_is : (rs : List Reply) (k : ℕ) → entry_in_order (reverse rs) k ≡ entry_at rs k
entry_is rs k = ap (λ (n : ℕ). cond (ltb k n) (entry_words (get_or (reverse rs) k Reply.failure)) []) (length-reverse rs) ∙ go (ltb k (length rs)) refl
  where
    go : (t : Bool) → ltb k (length rs) ≡ t
        → cond t (entry_words (get_or (reverse rs) k Reply.failure)) [] ≡ cond t (entry_words (get_or rs (length rs - (k + 1)) Reply.failure)) []
    go true e = ap entry_words (reply_at_lem rs k Reply.failure (ltb-true k (length rs) e))
    go false e = refl

pub in_order_lem : (b : Book) → InOrder b
in_order_lem b =
    let rs = b.replies in
    record {
      count = length-reverse rs;
      replied = λ r. reverse-cons r rs;
      struck_last = λ j. sym (struck_is j rs) ∙ ap (λ (n : ℕ). take (n - j) (reverse rs)) (sym (length-reverse rs));
      machine = sym (run_is b.setup rs);
      log = sym (log_is rs);
      entry = λ k. sym (entry_is rs k);
    }
