-- The words between two calls, and the history that they hold.
use Rattle.std.specs.Prelude.{◌≡◌, false}
use Rattle.definition.specs.History.{History}
use Rattle.held.specs.Test.{is_held}
pub use Rattle.held.specs.Words.{Words, words, lengths, setup_of, machine_in, log_in, Stands, Held}

abbrev pub Holds : Words → History → Type 0
Holds w History.empty = is_held w.state w.area ≡ false
Holds w (History.fit b) = Held w b
