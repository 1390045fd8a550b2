-- State, area and log between two calls, and what they hold.
use Rattle.std.specs.Prelude.{ℕ, ◌≤◌, ◌≡◌, true, List, length, take, Float}
use Rattle.definition.specs.Problem as P
use Rattle.definition.specs.Machine as M
use Rattle.definition.specs.Book.{Book, run_of, log_of}
use Rattle.definition.specs.Record.{Lengths}
use Rattle.definition.specs.Replies.{Accepted, Due}
use Rattle.area.specs.Area.{view}
use Rattle.search.specs.State.{Settled}
use Rattle.fit.specs.State.{machine_of}
use Rattle.fit.specs.declared.Fit.{Fit}
use Rattle.opening.specs.Opened.{setup_at}
use Rattle.held.specs.Test.{is_held}

pub record Words : Type 0 where
  pub state : Fit
  pub area : List Float
  pub log : List ℕ

abbrev pub words : Fit → List Float → List ℕ → Words
words t a l = record { state = t; area = a; log = l }

abbrev pub lengths : Words → Lengths
lengths w = record { area = length w.area; log = length w.log }

-- the setup that state and area hold
abbrev pub setup_of : Words → P.Setup
setup_of w = setup_at w.state.options (view w.area w.state.shape.n)

-- the machine that they hold
abbrev pub machine_in : Words → M.Machine
machine_in w = machine_of w.state w.area

-- the words of the log up to the last entry
abbrev pub log_in : Words → List ℕ
log_in w = take w.state.extra.words w.log

-- the words hold the machine of the setup after the replies of the book b, each due when it was given; whether the setup is accepted is not said
pub record Stands (w : Words) (b : Book) : Type 0 where
  pub due : Due b.setup b.replies
  pub test : is_held w.state w.area ≡ true
  pub setup : setup_of w ≡ b.setup
  pub is : machine_in w ≡ run_of b
  pub settled : Settled w.state.search
  pub entries : w.state.extra.entries ≡ length b.replies
  pub words : w.state.extra.words ≡ length (log_of b)
  pub room : w.state.extra.words ≤ length w.log
  pub log : log_in w ≡ log_of b

-- the words hold the fit of the book b, its setup an accepted one
pub record Held (w : Words) (b : Book) : Type 0 where
  pub accepted : Accepted b.setup
  pub stands : Stands w b
