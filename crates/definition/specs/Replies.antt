-- What a list of replies, newest first, says of a fit: which were due when given, and how many there are of each kind.
use Rattle.std.specs.Prelude.{ℕ, ◌+◌, ◌≡◌, Bool, cond, List, [], ◌∷◌, eqb}
use Rattle.std.specs.Prelude.{Option, None, Some}
use Rattle.definition.specs.Problem.{Setup, validate, either}
use Rattle.definition.specs.Machine.{Reply, Machine, first_word, is_value, kind_of, check_due}
use Rattle.definition.specs.Driver.{run}

abbrev pub Accepted : Setup → Type 0
Accepted s = validate s ≡ None

-- each reply was due, and of its length, when it was given
abbrev pub Due : Setup → List Reply → Type 0
Due s [] = Unit {0}
Due s (r ∷ rs) = (check_due (run s rs) r ≡ None) × Due s rs

unfoldable pub count_of : (Reply → Bool) → List Reply → ℕ
count_of p [] = 0
count_of p (r ∷ rs) = count_of p rs + cond (p r) 1 0

-- 1 where a question of this kind is open: 1 value, 2 gradient, 3 notice
abbrev pub open_of : ℕ → Machine → ℕ
open_of kind m = cond (eqb (kind_of m.phase) kind) 1 0

-- the word of the first value reply
abbrev pub value_in : Reply → Option ℕ
value_in r = cond (is_value r) (Some (first_word r)) None

unfoldable pub first_value : List Reply → Option ℕ
first_value [] = None
first_value (r ∷ rs) = either (first_value rs) (value_in r)
