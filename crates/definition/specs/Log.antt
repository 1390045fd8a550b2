-- The log: one entry a reply, in words. Lists of replies stand newest first, the log's words oldest first.
use Rattle.std.specs.Prelude.{ℕ, zero, suc, ◌+◌, ◌-◌, cond, List, [], ◌∷◌, ◌++◌, eqb, ltb, length, take, drop}
use Rattle.std.specs.Prelude.{Option, None, Some}
use Rattle.definition.specs.Problem.{Setup, Check}
use Rattle.definition.specs.Machine.{Reply, Machine, reply_kind, brought_words, check_due}
use Rattle.definition.specs.Driver.{answer, begin}

-- the kind, then the reply's words
abbrev pub entry_words : Reply → List ℕ
entry_words r = reply_kind r ∷ brought_words r

unfoldable pub log_words : List Reply → List ℕ
log_words [] = []
log_words (r ∷ rs) = log_words rs ++ entry_words r

-- ---- reading an entry: none where it is unknown or cut

abbrev pub value_entry : List ℕ → Option Reply
value_entry [] = None
value_entry (v ∷ ws) = Some (Reply.value v)

abbrev pub gradient_entry : ℕ → List ℕ → Option Reply
gradient_entry n ws = cond (ltb (length ws) n) None (Some (Reply.gradient (take n ws)))

-- the entry of kind k, with ws behind it
abbrev pub entry_of : ℕ → ℕ → List ℕ → Option Reply
entry_of n k ws =
    cond (eqb k 1) (value_entry ws)
    (cond (eqb k 2) (gradient_entry n ws)
    (cond (eqb k 3) (Some Reply.not_supplied)
    (cond (eqb k 4) (Some Reply.go_on)
    (cond (eqb k 5) (Some Reply.stop)
    (cond (eqb k 6) (Some Reply.failure) None)))))

-- ---- reading entries into a log of `room` words, one by one

pub data Entries : Type 0 where
  -- all are read
  kept : List Reply → Entries
  -- refused at an entry: 17 unknown, cut or not due; 12 no room for it in the log
  refused_at : ℕ → Entries
  -- words still to read, the replies so far and the machine that they lead to
  going : List ℕ → List Reply → Machine → Entries

abbrev pub admit_due : ℕ → List ℕ → List Reply → Machine → Reply → Check → Entries
admit_due room ws rs m r (Some c) = Entries.refused_at 17
admit_due room ws rs m r None =
    cond (ltb room (length (log_words rs) + length (entry_words r))) (Entries.refused_at 12)
    (Entries.going (drop (length (entry_words r) - 1) ws) (r ∷ rs) (answer m r))

abbrev pub admit : ℕ → List ℕ → List Reply → Machine → Option Reply → Entries
admit room ws rs m None = Entries.refused_at 17
admit room ws rs m (Some r) = admit_due room ws rs m r (check_due m r)

abbrev pub next_entry : ℕ → List ℕ → List Reply → Machine → Entries
next_entry room [] rs m = Entries.kept rs
next_entry room (k ∷ ws) rs m = admit room ws rs m (entry_of m.terms.n k ws)

abbrev pub one_more : ℕ → Entries → Entries
one_more room (Entries.kept rs) = Entries.kept rs
one_more room (Entries.refused_at c) = Entries.refused_at c
one_more room (Entries.going ws rs m) = next_entry room ws rs m

-- the reading after k entries
unfoldable pub after_entries : ℕ → ℕ → Entries → Entries
after_entries zero room e = e
after_entries (suc k) room e = one_more room (after_entries k room e)

abbrev pub first_entries : Setup → List ℕ → Entries
first_entries s ws = Entries.going ws [] (begin s)

-- Document 01 at record in: "then per entry: 17 unknown, cut or not due; 12".
-- Each entry has a word or more, so one step more than there are words always reaches the end.
abbrev pub entries_of : Setup → ℕ → List ℕ → Entries
entries_of s room ws = after_entries (length ws + 1) room (first_entries s ws)

-- Document 01 at take back: "per entry kept, in altered logs only: 17 unknown, cut or not due".
-- The replies of the entries read, if all of them could be: an entry that the words end before is cut.
abbrev pub stayed : Entries → Option (List Reply)
stayed (Entries.kept rs) = None
stayed (Entries.refused_at c) = None
stayed (Entries.going ws rs m) = Some rs

-- the replies of the first `count` entries of ws, a log's own words; none where one of them is unknown, cut or not due
abbrev pub entries_kept : Setup → ℕ → List ℕ → Option (List Reply)
entries_kept s count ws = stayed (after_entries count (length ws) (first_entries s ws))
