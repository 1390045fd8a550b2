-- A log read: due replies come back from their words, whatever is read was due and spells those words, all is read, and a room for all the words is
-- never short.
-- Assumes nothing.
use Prim.Native.Nat.{ℕ, zero, suc, ◌+◌, ◌-◌, ◌≤◌}
use native.Mathlib.Nat.{zero-add}
use native.Mathlib.Omega.{arith}
use mathlib.Core.Path.{◌≡◌, refl, sym, ap, ap₂, ◌∙◌, subst}
use mathlib.Core.Bool.{Bool, true, false, cond}
use mathlib.Core.List.{List, [], ◌∷◌, ◌++◌, append_assoc, append-nil}
use Rattle.std.specs.Prelude.{Option, None, Some}
use lib.Dec.{eqb, ltb}
use lib.ListN.{length, take, drop, length-append, take-append-drop}
use lib.Seq.{take_at, drop_at, length-take-le}
use borrow.Author.Tests.{eqb-true, ltb-false, le-ltb}
use Rattle.definition.specs.Problem.{Setup, Check}
use Rattle.definition.specs.Machine.{Reply, Machine, check_due}
use Rattle.definition.specs.Driver.{answer, run}
use Rattle.definition.specs.Log.{entry_words, log_words, value_entry, gradient_entry, entry_of, Entries, admit_due}
use Rattle.definition.specs.Log.{admit, next_entry, one_more, after_entries, first_entries, entries_of}
use Rattle.definition.specs.Replies.{Due}
use Rattle.definition.proofs.Tests.{by_test}
use Rattle.definition.proofs.Accepted.{due_length}

-- ---- one entry, from its words

module _ (room : ℕ) (rs : List Reply) (m : Machine) (rest : List ℕ) where
  admitted : (r : Reply) (ws : List ℕ) → check_due m r ≡ None → length (log_words rs) + length (entry_words r) ≤ room
      → drop (length (entry_words r) - 1) ws ≡ rest
      → admit room ws rs m (Some r) ≡ Entries.going rest (r ∷ rs) (answer m r)
  admitted r ws due fits e = rw (due, le-ltb room (length (log_words rs) + length (entry_words r)) fits, e)

  pub entry_read : (r : Reply) → check_due m r ≡ None → length (log_words rs) + length (entry_words r) ≤ room
      → next_entry room (entry_words r ++ rest) rs m ≡ Entries.going rest (r ∷ rs) (answer m r)
  entry_read (Reply.value v) d f = admitted (Reply.value v) (v ∷ rest) d f refl
  entry_read (Reply.gradient ws) d f =
      let e = due_length m ws d in
      let long : ltb (length (ws ++ rest)) m.terms.n ≡ false = le-ltb (length (ws ++ rest)) m.terms.n (omega (arith, length-append ws rest)) in
      rw (long, take_at ws rest m.terms.n e) (admitted (Reply.gradient ws) (ws ++ rest) d f (drop_at ws rest (suc (length ws) - 1) (omega arith)))
  entry_read Reply.not_supplied d f = admitted Reply.not_supplied rest d f refl
  entry_read Reply.go_on d f = admitted Reply.go_on rest d f refl
  entry_read Reply.stop d f = admitted Reply.stop rest d f refl
  entry_read Reply.failure d f = admitted Reply.failure rest d f refl

-- ---- the log, from its words

pub log_more : (r : Reply) (rs : List Reply) → length (log_words (r ∷ rs)) ≡ length (log_words rs) + length (entry_words r)
unfolding log_words
log_more r rs = simp length-append (omega arith)

-- each entry has its kind, so there are no more entries than words
pub words_some : (r : Reply) → 1 ≤ length (entry_words r)
words_some r = omega arith

pub entries_most : (rs : List Reply) → length rs ≤ length (log_words rs)
entries_most [] = omega arith
entries_most (r ∷ rs) = omega (arith, entries_most rs, log_more r rs, words_some r)

-- the newest entry stands last
log_last : (r : Reply) (rs : List Reply) (rest : List ℕ) → log_words (r ∷ rs) ++ rest ≡ log_words rs ++ (entry_words r ++ rest)
unfolding log_words
log_last r rs rest = append_assoc (log_words rs) (entry_words r) rest

-- a reading that has come to its end stays there
pub after_stopped : (k count room : ℕ) (e d : Entries) → k ≤ count → one_more room d ≡ d → after_entries k room e ≡ d → after_entries count room e ≡ d
unfolding after_entries
after_stopped k count room e d h stops is =
    let all : count ≡ count - k + k = omega arith in
    ap (λ (i : ℕ). after_entries i room e) all ∙ go (count - k)
  where
    go : (left : ℕ) → after_entries (left + k) room e ≡ d
    go zero = ap (λ (i : ℕ). after_entries i room e) (zero-add k) ∙ is
    go (suc left) =
        let more : suc left + k ≡ suc (left + k) = omega arith in
        ap (λ (i : ℕ). after_entries i room e) more ∙ ap (one_more room) (go left) ∙ stops

module _ (s : Setup) (room : ℕ) where
  -- the log's entries read, with `rest` behind them
  pub after_log : (rs : List Reply) (rest : List ℕ) → Due s rs → length (log_words rs) ≤ room
      → after_entries (length rs) room (first_entries s (log_words rs ++ rest)) ≡ Entries.going rest rs (run s rs)
  unfolding log_words run after_entries
  after_log [] rest d h = refl
  after_log (r ∷ rs) rest d h =
      let fits : length (log_words rs) + length (entry_words r) ≤ room = omega (arith, log_more r rs) in
      ap (λ (ws : List ℕ). one_more room (after_entries (length rs) room (first_entries s ws))) (log_last r rs rest)
      ∙ ap (one_more room) (after_log rs (entry_words r ++ rest) d.1 (omega arith))
      ∙ entry_read room rs (run s rs) rest r d.0 fits

  pub log_back : (rs : List Reply) → Due s rs → length (log_words rs) ≤ room → entries_of s room (log_words rs) ≡ Entries.kept rs
  unfolding after_entries
  log_back rs d h =
      let first = ap (λ (ws : List ℕ). after_entries (length rs) room (first_entries s ws)) (sym (append-nil (log_words rs))) in
      after_stopped (suc (length rs)) (length (log_words rs) + 1) room (first_entries s (log_words rs)) (Entries.kept rs) (omega (arith, entries_most rs)) refl
      (ap (one_more room) (first ∙ after_log rs [] d h))

-- ---- one entry read spells its words

abbrev Spells : ℕ → List ℕ → Option Reply → Type 0
Spells k ws None = Unit {0}
Spells k ws (Some r) = entry_words r ++ drop (length (entry_words r) - 1) ws ≡ k ∷ ws

spells_value : (k : ℕ) (ws : List ℕ) → 1 ≡ k → Spells k ws (value_entry ws)
spells_value k [] e = tt
spells_value k (v ∷ ws) e = ap (λ (j : ℕ). j ∷ v ∷ ws) e

spells_gradient : (n k : ℕ) (ws : List ℕ) → 2 ≡ k → Spells k ws (gradient_entry n ws)
spells_gradient n k ws e = go (ltb (length ws) n) refl
  where
    go : (t : Bool) → ltb (length ws) n ≡ t → Spells k ws (cond t None (Some (Reply.gradient (take n ws))))
    go true h = tt
    go false h =
        let size : suc (length (take n ws)) - 1 ≡ n = omega (arith, length-take-le n ws (ltb-false (length ws) n h)) in
        ap₂ (λ (j i : ℕ). j ∷ (take n ws ++ drop i ws)) e size ∙ ap (λ (l : List ℕ). k ∷ l) (take-append-drop n ws)

spells_entry : (n k : ℕ) (ws : List ℕ) → Spells k ws (entry_of n k ws)
spells_entry n k ws =
    by_test (Spells k ws) (eqb k 1) (λ e. spells_value k ws (kind 1 e)) (λ _.
    by_test (Spells k ws) (eqb k 2) (λ e. spells_gradient n k ws (kind 2 e)) (λ _.
    by_test (Spells k ws) (eqb k 3) (bare 3) (λ _.
    by_test (Spells k ws) (eqb k 4) (bare 4) (λ _.
    by_test (Spells k ws) (eqb k 5) (bare 5) (λ _.
    by_test (Spells k ws) (eqb k 6) (bare 6) (λ _. tt))))))
  where
    kind : (j : ℕ) → eqb k j ≡ true → j ≡ k
    kind j e = sym (eqb-true k j e)

    bare : (j : ℕ) → eqb k j ≡ true → j ∷ ws ≡ k ∷ ws
    bare j e = ap (λ (i : ℕ). i ∷ ws) (kind j e)

-- ---- the entries read spell theirs

-- `rs` are read of the words `all`, and `ws` are left
pub record Read (s : Setup) (room : ℕ) (all ws : List ℕ) (rs : List Reply) : Type 0 where
  pub due : Due s rs
  pub spelled : log_words rs ++ ws ≡ all
  pub fits : length (log_words rs) ≤ room

module _ (s : Setup) (room : ℕ) (all : List ℕ) where
  -- after k entries
  abbrev Reads : ℕ → Entries → Type 0
  Reads k (Entries.kept rs) = Read s room all [] rs
  Reads k (Entries.refused_at c) = Unit {0}
  Reads k (Entries.going ws rs m) = Read s room all ws rs × (m ≡ run s rs) × (length rs ≡ k)

  reads_due : (k : ℕ) (ws : List ℕ) (rs : List Reply) (m : Machine) (r : Reply) → Spells k ws (Some r) → Read s room all (k ∷ ws) rs → m ≡ run s rs
      → (c : Check) → check_due m r ≡ c → Reads (suc (length rs)) (admit_due room ws rs m r c)
  unfolding run
  reads_due k ws rs m r spelled h e (Some c) due = tt
  reads_due k ws rs m r spelled h e None due = go (ltb room (length (log_words rs) + length (entry_words r))) refl
    where
      go : (t : Bool) → ltb room (length (log_words rs) + length (entry_words r)) ≡ t
          → Reads (suc (length rs)) (cond t (Entries.refused_at 12) (Entries.going (drop (length (entry_words r) - 1) ws) (r ∷ rs) (answer m r)))
      go true f = tt
      go false f = (
        record {
          due = (ap (λ (n : Machine). check_due n r) (sym e) ∙ due, h.due);
          spelled = log_last r rs _ ∙ ap (λ (l : List ℕ). log_words rs ++ l) spelled ∙ h.spelled;
          fits = omega (arith, ltb-false room (length (log_words rs) + length (entry_words r)) f, log_more r rs);
        },
        ap (λ (n : Machine). answer n r) e,
        refl,
      )

  reads_admit : (k : ℕ) (ws : List ℕ) (rs : List Reply) (m : Machine) (o : Option Reply) → Spells k ws o → Read s room all (k ∷ ws) rs → m ≡ run s rs
      → Reads (suc (length rs)) (admit room ws rs m o)
  reads_admit k ws rs m None spelled h e = tt
  reads_admit k ws rs m (Some r) spelled h e = reads_due k ws rs m r spelled h e (check_due m r) refl

  reads_next : (ws : List ℕ) (rs : List Reply) (m : Machine) → Read s room all ws rs → m ≡ run s rs → Reads (suc (length rs)) (next_entry room ws rs m)
  reads_next [] rs m h e = h
  reads_next (k ∷ ws) rs m h e = reads_admit k ws rs m (entry_of m.terms.n k ws) (spells_entry m.terms.n k ws) h e

  reads_one : (k : ℕ) (e : Entries) → Reads k e → Reads (suc k) (one_more room e)
  reads_one k (Entries.kept rs) h = h
  reads_one k (Entries.refused_at c) h = tt
  reads_one k (Entries.going ws rs m) h =
      subst (λ (i : ℕ). Reads (suc i) (next_entry room ws rs m)) h.2 (reads_next ws rs m h.0 h.1)

  reads_after : (k : ℕ) → Reads k (after_entries k room (first_entries s all))
  unfolding log_words run after_entries
  reads_after zero = (record { due = tt; spelled = refl; fits = omega arith }, refl, refl)
  reads_after (suc k) = reads_one k (after_entries k room (first_entries s all)) (reads_after k)

  pub log_sound : (rs : List Reply) → entries_of s room all ≡ Entries.kept rs → Read s room all [] rs
  log_sound rs e = subst (Reads (length all + 1)) e (reads_after (length all + 1))

  -- the bound on the number of entries is never what ends the reading
  pub entries_end : (ws : List ℕ) (rs : List Reply) (m : Machine) → entries_of s room all ≡ Entries.going ws rs m → ⊥
  entries_end ws rs m e =
      let r = subst (Reads (length all + 1)) e (reads_after (length all + 1)) in
      omega (arith, entries_most rs, simp length-append at (ap length r.0.spelled), r.2)

-- ---- a room for all the words: each gives the same, and none refuses an entry

-- what is refused is not refused for want of room
abbrev pub Unshort : Entries → Type 0
Unshort (Entries.kept rs) = Unit {0}
Unshort (Entries.refused_at c) = c ≡ 17
Unshort (Entries.going ws rs m) = Unit {0}

abbrev pub Alike : Entries → Entries → Type 0
Alike a b = (a ≡ b) × Unshort a

module _ (s : Setup) (room large : ℕ) (all : List ℕ) (fits : length all ≤ room) (fits-large : length all ≤ large) where
  due_alike : (ws : List ℕ) (rs : List Reply) (m : Machine) (r : Reply) (c : Check) → length (log_words rs) + length (entry_words r) ≤ length all
      → Alike (admit_due room ws rs m r c) (admit_due large ws rs m r c)
  due_alike ws rs m r (Some c) h = (refl, refl)
  due_alike ws rs m r None h =
      let size = length (log_words rs) + length (entry_words r) in
      rw (le-ltb room size (omega arith), le-ltb large size (omega arith)) (refl, tt)

  next_alike : (ws : List ℕ) (rs : List Reply) (m : Machine) → log_words rs ++ ws ≡ all → Alike (next_entry room ws rs m) (next_entry large ws rs m)
  next_alike [] rs m h = (refl, tt)
  next_alike (k ∷ ws) rs m h = go (entry_of m.terms.n k ws) (spells_entry m.terms.n k ws)
    where
      go : (o : Option Reply) → Spells k ws o → Alike (admit room ws rs m o) (admit large ws rs m o)
      go None spelled = (refl, refl)
      go (Some r) spelled =
          due_alike ws rs m r (check_due m r) (omega (arith, simp length-append at (ap length spelled), simp length-append at (ap length h)))

  one_alike : (k : ℕ) (e : Entries) → Reads s room all k e → Unshort e → Alike (one_more room e) (one_more large e)
  one_alike k (Entries.kept rs) r h = (refl, tt)
  one_alike k (Entries.refused_at c) r h = (refl, h)
  one_alike k (Entries.going ws rs m) r h = next_alike ws rs m r.0.spelled

  pub after_alike : (k : ℕ) → Alike (after_entries k room (first_entries s all)) (after_entries k large (first_entries s all))
  unfolding after_entries
  after_alike zero = (refl, tt)
  after_alike (suc k) =
      let a = after_alike k in
      let b = one_alike k (after_entries k room (first_entries s all)) (reads_after s room all k) a.1 in
      (b.0 ∙ ap (one_more large) a.0, b.1)
