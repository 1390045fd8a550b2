-- The book's replies in the order in which they were given, as document 01 has them: an accepted reply is added at the end, an accepted
-- taking back of j strikes the last j. A view of the one book: `InOrder` says each part of it in that order.
use Rattle.std.specs.Prelude.{ℕ, ◌-◌, ◌≡◌, cond, List, [], ◌∷◌, ◌++◌, reverse, ltb, length, take, get_or}
use Rattle.definition.specs.Problem.{Setup}
use Rattle.definition.specs.Machine.{Reply, Machine}
use Rattle.definition.specs.Driver.{answer, begin}
use Rattle.definition.specs.Log.{entry_words}
use Rattle.definition.specs.Book.{Book, with_reply, struck, run_of, log_of, entry_at}

abbrev pub in_order : Book → List Reply
in_order b = reverse b.replies

-- the machine after the replies
abbrev pub run_from : Machine → List Reply → Machine
run_from m [] = m
run_from m (r ∷ rs) = run_from (answer m r) rs

abbrev pub run_in_order : Setup → List Reply → Machine
run_in_order s rs = run_from (begin s) rs

-- the log, entry after entry
abbrev pub log_in_order : List Reply → List ℕ
log_in_order [] = []
log_in_order (r ∷ rs) = entry_words r ++ log_in_order rs

abbrev pub entry_in_order : List Reply → ℕ → List ℕ
entry_in_order rs k = cond (ltb k (length rs)) (entry_words (get_or rs k Reply.failure)) []

pub record InOrder (b : Book) : Type 0 where
  pub count : length (in_order b) ≡ length b.replies
  pub replied : (r : Reply) → in_order (with_reply r b) ≡ in_order b ++ (r ∷ [])
  pub struck_last : (j : ℕ) → in_order (struck j b) ≡ take (length (in_order b) - j) (in_order b)
  pub machine : run_of b ≡ run_in_order b.setup (in_order b)
  pub log : log_of b ≡ log_in_order (in_order b)
  pub entry : (k : ℕ) → entry_at b.replies k ≡ entry_in_order (in_order b) k
