-- One entry: the reply that stands at a word, whether it is admitted, and what taking it leaves.
use Rattle.std.specs.Prelude.{ℕ, ◌+◌, ◌≤◌, ◌<◌, ◌≡◌, Bool, true, cond, ◌⊎◌, List, ◌∷◌, ◌++◌, length, get_or, take, drop, Float}
use Rattle.std.specs.Prelude.{Option, None, Some, Result, Ok, Err}
use Rattle.definition.specs.Machine as M
use Rattle.definition.specs.Machine.{check_due}
use Rattle.definition.specs.Driver as D
use Rattle.definition.specs.Log.{Entries, entry_of, entry_words, log_words, next_entry}
use Rattle.area.specs.Area.{view, Saved}
use Rattle.compact.specs.State.{Sound}
use Rattle.search.specs.State.{Settled}
use Rattle.fit.specs.State.{machine_of, more_kept}
use Rattle.fit.specs.declared.Fit.{Fit}
use Rattle.differences.specs.declared.Probing.{Probing}
use Rattle.held.specs.Test.{shape_held, is_ready}
pub use Rattle.driver.specs.Replies.{replied, reply_at, is_due}
use Rattle.driver.specs.declared.Reply.{Reply}
use Rattle.driver.specs.declared.Reply.TheVariants as R
use Rattle.replay.specs.declared.Entry.{Entry}
use Rattle.problem.specs.Setups.{refusal_of}
use Rattle.problem.specs.declared.Refusal.{Refusal}
use Rattle.problem.specs.declared.Refusal.TheVariants.{LogShort, Malformed}

-- ---- reading an entry

-- how many words its entry has, of n coordinates
abbrev pub size_of : Reply → ℕ → ℕ
size_of (R.Value w) n = 2
size_of R.Gradient n = n + 1
size_of R.NotSupplied n = 1
size_of R.GoOn n = 1
size_of R.Stop n = 1
size_of R.Failure n = 1

-- the n words behind the kind of the entry at a word
abbrev pub gradient_at : ℕ → List ℕ → ℕ → List ℕ
gradient_at n ws at = take n (drop (at + 1) ws)

-- the entry at a word is the reply r, in l words
pub record Reads (n : ℕ) (ws : List ℕ) (at : ℕ) (r : Reply) (l : ℕ) : Type 0 where
  pub is : entry_of n (get_or ws at 0) (drop (at + 1) ws) ≡ Some (replied r (gradient_at n ws at))
  pub size : l ≡ size_of r n
  pub within : at + l ≤ length ws
  pub spelled : entry_words (replied r (gradient_at n ws at)) ++ drop (at + l) ws ≡ drop at ws

abbrev pub EntryIs : ℕ → List ℕ → ℕ → Option Entry → Type 0
EntryIs n ws at None = entry_of n (get_or ws at 0) (drop (at + 1) ws) ≡ None
EntryIs n ws at (Some e) = Reads n ws at e.reply e.length

-- ---- admitting it

-- refused where it is not due, then where it has no room
abbrev pub admission : Bool → Bool → Result Unit Refusal
admission due fits = cond due (cond fits (Ok tt) (Err LogShort)) (Err Malformed)

-- ---- taking it

-- f with the area b is t with the area a taken through one more entry
pub record Took (t : Fit) (a : List Float) (ws : List ℕ) (room : ℕ) (f : Fit) (b : List Float) : Type 0 where
  pub reply : M.Reply
  pub due : check_due (machine_of t a) reply ≡ None
  pub is : machine_of f b ≡ D.answer (machine_of t a) reply
  pub spelled : entry_words reply ++ drop f.extra.words ws ≡ drop t.extra.words ws
  pub next : (rs : List M.Reply) → t.extra.words ≡ length (log_words rs)
      → next_entry room (drop t.extra.words ws) rs (machine_of t a) ≡ Entries.going (drop f.extra.words ws) (reply ∷ rs) (machine_of f b)
  pub entries : f.extra.entries ≡ t.extra.entries + 1
  pub words : f.extra.words ≡ t.extra.words + length (entry_words reply)
  pub last : f.extra.words ≤ length ws
  pub within : f.extra.words ≤ room
  pub options : f.options ≡ t.options
  pub n : f.shape.n ≡ t.shape.n
  pub m : f.shape.m ≡ t.shape.m
  pub shape : shape_held f.shape (length b) ≡ true
  pub sound : Sound f.shape (length b)
  pub settled : Settled t.search → Settled f.search
  pub saved : Saved (view a t.shape.n) (view b t.shape.n)
  pub terms : (machine_of f b).terms ≡ (machine_of t a).terms

-- the definition refuses the entry too, where the fit passes the test
pub record RefusedBy (t : Fit) (a : List Float) (ws : List ℕ) (room : ℕ) (c : Refusal) : Type 0 where
  pub code : (c ≡ Malformed) ⊎ ((c ≡ LogShort) × (room < length ws))
  pub next : is_ready t (length a) ≡ true → (rs : List M.Reply) → t.extra.words ≡ length (log_words rs)
      → next_entry room (drop t.extra.words ws) rs (machine_of t a) ≡ Entries.refused_at (refusal_of c).number

abbrev pub NextIs : Fit → List Float → List ℕ → ℕ → Result Fit Refusal → List Float → Type 0
NextIs t a ws room (Ok f) b = Took t a ws room f b
NextIs t a ws room (Err c) b = RefusedBy t a ws room c

-- ---- a run of entries

-- f with the area b is t with the area a taken through some entries, none past the limit
pub data Run (ws : List ℕ) (limit room : ℕ) (t : Fit) (a : List Float) : Fit → List Float → Type 0 where
  begun : Run ws limit room t a t a
  taken : (f : Fit) (b : List Float) (g : Fit) (d : List Float) → Run ws limit room t a f b → f.extra.entries < limit → length d ≡ length b
      → Took f b ws room g d
      → Run ws limit room t a g d

-- ---- a value at a probe

-- the probe q with one more entry kept, of l words
abbrev pub logged : ℕ → Probing → Probing
logged l q = record { i = q.i; side = q.side; right_value = q.right_value; counters = q.counters; extra = more_kept q.extra l }

-- the entry at the probe q is the value v, in l words, which the limit and the room let pass
pub record Offered (n : ℕ) (ws : List ℕ) (q : Probing) (limit room v l : ℕ) : Type 0 where
  pub reads : Reads n ws q.extra.words (R.Value v) l
  pub few : q.extra.entries < limit
  pub fits : q.extra.words + l ≤ room

abbrev pub ValueIs : ℕ → List ℕ → Probing → ℕ → ℕ → Option (ℕ × ℕ) → Type 0
ValueIs n ws q limit room None = Unit {0}
ValueIs n ws q limit room (Some e) = Offered n ws q limit room e.0 e.1
