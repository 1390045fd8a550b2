-- Laws of checks, one after the other. Assumes nothing.
use mathlib.Core.Path.{◌≡◌, refl, sym, ap, ◌∙◌}
use Rattle.std.specs.Prelude.{None, Some, Result, Ok, Err}
use Rattle.definition.specs.Problem.{Check, ◌then◌}
use Rattle.problem.specs.Setups.{check_of, refusal_of}
use Rattle.problem.specs.declared.Refusal.{Refusal}

pub passed : {k : Result Unit Refusal} {u : Unit} {a : Check} → k ≡ Ok u → check_of k ≡ a → a ≡ None
passed e h = sym h ∙ ap check_of e

pub refused : {k : Result Unit Refusal} {q : Refusal} {a : Check} → k ≡ Err q → check_of k ≡ a → a ≡ Some (refusal_of q)
refused e h = sym h ∙ ap check_of e

pub first_refuses : {k : Result Unit Refusal} {q : Refusal} {a : Check} (b : Check) → k ≡ Err q → check_of k ≡ a → check_of k ≡ (a then b)
first_refuses b e h = rw (← h, e) refl

pub rest_decides : {a : Check} (b : Check) → a ≡ None → b ≡ (a then b)
rest_decides b e = rw e refl
