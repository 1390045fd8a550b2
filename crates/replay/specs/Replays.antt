-- Where entries stand, and what a replay of them leaves.
use Rattle.std.specs.Prelude.{Result, Ok, Err, ℕ, ◌/◌, ◌≤◌, ◌<◌, ◌≡◌, true, ◌⊎◌, List, ◌++◌, length, drop, Float}
use Rattle.definition.specs.Problem as P
use Rattle.definition.specs.Machine as M
use Rattle.definition.specs.Driver as D
use Rattle.definition.specs.Log.{Entries, log_words}
use Rattle.definition.specs.Record.{words_of}
use Rattle.definition.specs.Replies.{Accepted, Due}
use Rattle.area.specs.Area.{view, Saved}
use Rattle.search.specs.State.{Settled}
use Rattle.fit.specs.State.{machine_of}
use Rattle.fit.specs.declared.Fit.{Fit}
use Rattle.fit.specs.State.{most_words}
use Rattle.held.specs.Test.{shape_held, is_ready}
use Rattle.replay.specs.declared.Source.{Source}
use Rattle.replay.specs.declared.Source.TheVariants.{Log, Record}
use Rattle.problem.specs.Setups.{refusal_of}
use Rattle.problem.specs.declared.Refusal.{Refusal}
use Rattle.problem.specs.declared.Refusal.TheVariants.{LogShort, Malformed}
pub use Rattle.definition.specs.Log.{one_more, first_entries}
unfoldable pub use Rattle.definition.specs.Log.{after_entries}

-- ---- words

abbrev pub source_words : Source → List ℕ
source_words (Log log) = log.now
source_words (Record bs) = words_of (length bs.now / 8) bs.now

-- ---- a replay

-- every fit on the way passes the held test: the setup is accepted, or the words are few
abbrev pub Replayable : P.Setup → List ℕ → Type 0
Replayable s ws = Accepted s ⊎ (length ws < most_words)

-- f with the area b is the setup's machine after as many entries as f says, and can be advanced
pub record ReplayedTo (s : P.Setup) (ws : List ℕ) (room : ℕ) (f : Fit) (b : List Float) : Type 0 where
  pub replies : List M.Reply
  pub after : after_entries f.extra.entries room (first_entries s ws) ≡ Entries.going (drop f.extra.words ws) replies (machine_of f b)
  pub due : Due s replies
  pub is : machine_of f b ≡ D.run s replies
  pub spelled : log_words replies ++ drop f.extra.words ws ≡ ws
  pub entries : f.extra.entries ≡ length replies
  pub words : f.extra.words ≡ length (log_words replies)
  pub ready : is_ready f (length b) ≡ true

-- the definition refuses an entry, no later than the number asked for
pub record RefusedAt (s : P.Setup) (ws : List ℕ) (limit room c : ℕ) : Type 0 where
  pub number : ℕ
  pub most : number ≤ limit
  pub is : after_entries number room (first_entries s ws) ≡ Entries.refused_at c

abbrev pub Ends : P.Setup → List ℕ → ℕ → ℕ → Result Fit Refusal → List Float → Type 0
Ends s ws limit room (Ok f) b = ReplayedTo s ws room f b
Ends s ws limit room (Err c) b = RefusedAt s ws limit room (refusal_of c).number

-- what is not the machine's is kept, and the numbers stay in range
pub record Keeps (t : Fit) (a : List Float) (ws : List ℕ) (limit room : ℕ) (f : Fit) (b : List Float) : Type 0 where
  pub options : f.options ≡ t.options
  pub n : f.shape.n ≡ t.shape.n
  pub m : f.shape.m ≡ t.shape.m
  pub shape : shape_held f.shape (length b) ≡ true
  pub settled : Settled t.search → Settled f.search
  pub saved : Saved (view a t.shape.n) (view b t.shape.n)
  pub terms : (machine_of f b).terms ≡ (machine_of t a).terms
  pub few : f.extra.entries ≤ limit
  pub words : f.extra.words ≤ length ws
  pub within : f.extra.words ≤ room
  -- it stopped at the last word, or at the number of entries asked for
  pub stopped : (f.extra.words ≡ length ws) ⊎ (f.extra.entries ≡ limit)

abbrev pub Kept : Fit → List Float → List ℕ → ℕ → ℕ → Result Fit Refusal → List Float → Type 0
Kept t a ws limit room (Ok f) b = Keeps t a ws limit room f b
Kept t a ws limit room (Err c) b = (c ≡ Malformed) ⊎ ((c ≡ LogShort) × (room < length ws))

pub record Replays (t : Fit) (a : List Float) (ws : List ℕ) (limit room : ℕ) (r : Result Fit Refusal) (b : List Float) : Type 0 where
  pub size : length b ≡ length a
  pub kept : Kept t a ws limit room r b
  -- the definition's reading, entry by entry
  pub is : (s : P.Setup) → Replayable s ws → machine_of t a ≡ D.begin s → Ends s ws limit room r b
