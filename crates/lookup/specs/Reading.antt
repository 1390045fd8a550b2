-- The entries among the words of a log, and the record of what words hold.
use Rattle.std.specs.Prelude.{ℕ, zero, suc, ◌*◌, ◌≤◌, List, [], ◌∷◌, ◌++◌, length, drop, Float, cond, eqb}
use Rattle.area.specs.Area.{view, vector_x0, vector_lower, vector_upper}
use Rattle.record.specs.Records.{Savable}
use Rattle.fit.specs.declared.Fit.{Fit}
use Rattle.std.specs.Prelude.{Option, None, Some}
use Rattle.definition.specs.Machine as M
use Rattle.definition.specs.Log.{entry_words, entry_of}
use Rattle.definition.specs.Record.{setup_words, trailer, bytes}
use Rattle.held.specs.Words.{Words, setup_of, log_in}

-- the words of the entry that begins a list of words; none where it is unknown or cut
abbrev pub words_of_entry : Option M.Reply → List ℕ
words_of_entry None = []
words_of_entry (Some r) = entry_words r

abbrev pub front_entry : ℕ → List ℕ → List ℕ
front_entry n [] = []
front_entry n (k ∷ ws) = words_of_entry (entry_of n k ws)

-- the words of entry k
unfoldable pub entry_in : ℕ → ℕ → List ℕ → List ℕ
entry_in n zero ws = front_entry n ws
entry_in n (suc k) ws = cond (eqb (length (front_entry n ws)) 0) [] (entry_in n k (drop (length (front_entry n ws)) ws))

-- the start and the bounds stand in the area, and can be saved
pub record Placed (t : Fit) (a : List Float) : Type 0 where
  pub room : 5 * t.shape.n ≤ length a
  pub savable : Savable t.options (view a t.shape.n vector_x0) (view a t.shape.n vector_lower) (view a t.shape.n vector_upper)

-- the record of what the words hold
abbrev pub record_in : Words → List ℕ
record_in w = let ws = setup_words (setup_of w) ++ log_in w in bytes (ws ++ trailer ws)
