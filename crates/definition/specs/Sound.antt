-- What is true of every fit that is held, and which refusal empties a history: the words of the theorems on histories.
use Rattle.std.specs.Prelude.{◌≤◌, Bool, true, false, length}
use Rattle.definition.specs.Problem.{area_needed}
use Rattle.definition.specs.Book.{Book, log_of}
use Rattle.definition.specs.Record.{Lengths, Reading, read_record}
use Rattle.definition.specs.History.{Call}
use Rattle.definition.specs.Replies.{Accepted, Due}

-- the setup is accepted, each reply was due when it was given, area and log are long enough
pub record Sound (z : Lengths) (b : Book) : Type 0 where
  pub accepted : Accepted b.setup
  pub due : Due b.setup b.replies
  pub area : area_needed b.setup ≤ z.area
  pub log : length (log_of b) ≤ z.log

abbrev pub at_entry : Reading → Bool
at_entry (Reading.accepted b) = false
at_entry (Reading.refused c) = false
at_entry (Reading.refused_at_entry c) = true

-- a restore whose record is refused at an entry
abbrev pub refused_at_entry : Lengths → Call → Bool
refused_at_entry z (Call.start s) = false
refused_at_entry z (Call.restore bs) = at_entry (read_record z bs)
refused_at_entry z (Call.reply r) = false
refused_at_entry z (Call.take_back j) = false
refused_at_entry z (Call.question room) = false
refused_at_entry z (Call.report room) = false
refused_at_entry z Call.replies = false
refused_at_entry z (Call.entry k room) = false
refused_at_entry z (Call.save room) = false
