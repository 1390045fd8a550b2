-- What the parts of a take back and of a restore do: words zeroed or copied, and the fit of a setup and entries built anew.
use Rattle.std.specs.Prelude.{ℕ, ◌-◌, ◌≤◌, ◌<◌, ◌≡◌, true, cond, ◌⊎◌, List, ◌++◌, ltb, length, take, drop, replicate, Float}
use Rattle.std.specs.Prelude.{None, Result, Ok, Err}
use Rattle.definition.specs.Number.{zero64}
use Rattle.definition.specs.Problem as P
use Rattle.definition.specs.Problem.{area_needed}
use Rattle.definition.specs.Log.{entries_kept}
use Rattle.definition.specs.Record.{words_of}
use Rattle.area.specs.Area.{view, FreeKept}
use Rattle.compact.specs.State.{Sound}
use Rattle.search.specs.State.{Settled}
use Rattle.fit.specs.declared.Fit.{Fit}
use Rattle.opening.specs.Opened.{setup_at}
use Rattle.held.specs.Test.{shape_held, marked, Marks}
use Rattle.record.specs.declared.Frame.{Frame}
use Rattle.record.specs.Records.{all_words, entry_bytes}
use Rattle.replay.specs.Replays.{Replayable, ReplayedTo, RefusedAt}
use Rattle.problem.specs.Setups.{refusal_of}
use Rattle.problem.specs.declared.Refusal.{Refusal}
use Rattle.problem.specs.declared.Refusal.TheVariants.{LogShort, Malformed}

-- ---- words

abbrev pub zeroed : List Float → List Float
zeroed a = replicate (length a) zero64

-- the words from one number to another are zero
abbrev pub struck_out : ℕ → ℕ → List ℕ → List ℕ
struck_out from to l = take from l ++ replicate (to - from) 0 ++ drop to l

-- the words of a record's entries
abbrev pub entries_in : Frame → List ℕ
entries_in f = all_words (entry_bytes f)

-- ws in place of as many of the first words
abbrev pub headed : List ℕ → List ℕ → List ℕ
headed ws l = ws ++ drop (length ws) l

-- ---- what a replay leaves

abbrev pub Markable : Result Fit Refusal → ℕ → Type 0
Markable (Ok f) size = shape_held f.shape size ≡ true
Markable (Err c) size = Unit {0}

-- the fit marked, or the area zeroed
abbrev pub Settles : Result Fit Refusal → List Float → List Float → Type 0
Settles (Ok f) a b = Marks f.shape a b
Settles (Err k) a b = b ≡ zeroed a

-- the replay of a log's first `count` entries: refused where there are fewer
abbrev pub all_of : Result Fit Refusal → ℕ → Result Fit Refusal
all_of (Ok f) count = cond (ltb f.extra.entries count) (Err Malformed) (Ok f)
all_of (Err c) count = Err c

-- ---- a fit built from a setup and the words of entries

-- f with the marked area b, which was a, holds the setup s and what at most `limit` entries of ws make of it
pub record Built (s : P.Setup) (ws : List ℕ) (limit room : ℕ) (a : List Float) (f : Fit) (b : List Float) : Type 0 where
  pub long : length b ≡ length a
  pub setup : setup_at f.options (view b f.shape.n) ≡ s
  pub free : FreeKept (view a f.shape.n) (view b f.shape.n)
  pub sound : Sound f.shape (length b)
  pub mark : marked f.shape b ≡ true
  pub settled : Settled f.search
  pub area : area_needed s ≤ length b
  pub words : f.extra.words ≤ length ws
  pub within : f.extra.words ≤ room
  pub stopped : (f.extra.words ≡ length ws) ⊎ (f.extra.entries ≡ limit)
  pub is : Replayable s ws → ReplayedTo s ws room f b

-- an entry is refused, for want of room only where there are more words than room: the area is zero
pub record Unbuilt (s : P.Setup) (ws : List ℕ) (limit room size : ℕ) (c : Refusal) (b : List Float) : Type 0 where
  pub which : (c ≡ Malformed) ⊎ ((c ≡ LogShort) × (room < length ws))
  pub area : b ≡ replicate size zero64
  pub is : Replayable s ws → RefusedAt s ws limit room (refusal_of c).number

abbrev pub Builds : P.Setup → List ℕ → ℕ → ℕ → List Float → Result Fit Refusal → List Float → Type 0
Builds s ws limit room a (Ok f) b = Built s ws limit room a f b
Builds s ws limit room a (Err c) b = Unbuilt s ws limit room (length a) c b

-- an entry that is to stay is unknown, cut or not due: the area is zero
pub record Cut (s : P.Setup) (ws : List ℕ) (count size : ℕ) (c : Refusal) (b : List Float) : Type 0 where
  pub which : c ≡ Malformed
  pub area : b ≡ replicate size zero64
  pub is : entries_kept s count ws ≡ None

-- of a log's first `count` entries, all of which are to stay: the fit of just as many, or none; with any setup, as the definition reads them
abbrev pub Stays : P.Setup → List ℕ → ℕ → ℕ → List Float → Result Fit Refusal → List Float → Type 0
Stays s ws count room a (Ok f) b = Built s ws count room a f b × (f.extra.entries ≡ count) × ReplayedTo s ws room f b
Stays s ws count room a (Err c) b = Cut s ws count (length a) c b

-- ---- the log

-- the words from the fit's last entry to another number are zero; as it was where an entry is refused
abbrev pub Shortens : Result Fit Refusal → ℕ → List ℕ → List ℕ → Type 0
Shortens (Ok f) to l m = m ≡ struck_out f.extra.words to l
Shortens (Err c) to l m = m ≡ l

-- the words of the record's entries stand in front; as it was where one is refused
abbrev pub Reloads : Result Fit Refusal → Frame → List ℕ → List ℕ → Type 0
Reloads (Ok t) f l m = m ≡ headed (words_of t.extra.words (entry_bytes f)) l
Reloads (Err c) f l m = m ≡ l
