-- What reading an input leaves, by the definition's reading.
use Rattle.std.specs.Prelude.{◌≡◌, List, ℕ, Float, Result, Ok, Err}
use Rattle.definition.specs.Record.{Reading}
use Rattle.problem.specs.Setups.{refusal_of}
use Rattle.problem.specs.declared.Refusal.{Refusal}
use Rattle.fit.specs.declared.Fit.{Fit}
use Rattle.lbfgsb.specs.Words.{words, Held}

-- a fit accepted is held; a refusal has the definition's number and details
abbrev pub Taken : Reading → Result Fit Refusal → List Float → List ℕ → Type 0
Taken (Reading.accepted b) (Ok f) a l = Held (words f a l) b
Taken (Reading.accepted b) (Err c) a l = ⊥
Taken (Reading.refused k) (Ok f) a l = ⊥
Taken (Reading.refused k) (Err c) a l = refusal_of c ≡ k
Taken (Reading.refused_at_entry k) (Ok f) a l = ⊥
Taken (Reading.refused_at_entry k) (Err c) a l = refusal_of c ≡ k
