-- Document 01's book of a fit: its setup and the replies kept; what changes it, and what is read off it.
use Rattle.std.specs.Prelude.{ℕ, ◌+◌, ◌-◌, cond, List, [], ◌∷◌, ltb, length, drop, get_or}
use Rattle.definition.specs.Problem.{Setup}
use Rattle.definition.specs.Machine.{Reply, Machine}
use Rattle.definition.specs.Driver.{run}
use Rattle.definition.specs.Log.{entry_words, log_words}

pub record Book : Type 0 where
  pub setup : Setup
  -- newest first; Ordered.antt has them in the order in which they were given
  pub replies : List Reply

abbrev pub book : Setup → List Reply → Book
book s rs = record { setup = s; replies = rs }

-- ---- what changes it

abbrev pub opened_book : Setup → Book
opened_book s = book s []

-- one reply more
abbrev pub with_reply : Reply → Book → Book
with_reply r b = book b.setup (r ∷ b.replies)

-- the last j replies struck
abbrev pub struck : ℕ → Book → Book
struck j b = book b.setup (drop j b.replies)

-- ---- what is read off it

-- the machine after the replies
abbrev pub run_of : Book → Machine
run_of b = run b.setup b.replies

-- the words of their entries
abbrev pub log_of : Book → List ℕ
log_of b = log_words b.replies

-- the words of entry k, from 0 the oldest, which is reply (count - 1 - k) from the newest; none where there is no such entry
abbrev pub entry_at : List Reply → ℕ → List ℕ
entry_at rs k = cond (ltb k (length rs)) (entry_words (get_or rs (length rs - (k + 1)) Reply.failure)) []
