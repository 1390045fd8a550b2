-- The definition's calls and answers, read off the code's arguments and results. Nothing proves that these few readings are the right ones: a reader must
-- read them. A field keeps its name (`refusal_of`, `report_of`, `setup_of`, passed on from the crates below), a variant its sense (`replied`); programs of the
-- gate print what they read.
use Rattle.std.specs.Prelude.{ℕ, zero, suc, List, [], ◌∷◌, take, Float}
use Rattle.std.specs.Prelude.{Option, None, Some, Result, Ok, Err}
use Rattle.definition.specs.History as H
use Rattle.problem.specs.declared.Refusal.{Refusal}
use Rattle.fit.specs.declared.Fit.{Fit}
use Rattle.fit.specs.declared.Kind.{Kind}
use Rattle.fit.specs.State.{kind_number}
use Rattle.question.specs.declared.Outcome.{Outcome}
pub use Rattle.problem.specs.Setups.{setup_of, refusal_of}
pub use Rattle.question.specs.Reports.{report_of}
pub use Rattle.driver.specs.Replies.{replied}

-- ---- start, restore, reply, take_back

-- the state to go on with
abbrev pub next : Fit → Result Fit Refusal → Fit
next t (Ok g) = g
next t (Err c) = t

abbrev pub kept : Result Fit Refusal → H.Answer
kept (Ok g) = H.Answer.done
kept (Err c) = H.Answer.refused (refusal_of c)

-- ---- the reads

-- n coordinates from the front of the output
abbrev pub asked : Result (Option Kind) Refusal → ℕ → List Float → H.Answer
asked (Ok None) n out = H.Answer.asked None
asked (Ok (Some k)) n out = H.Answer.asked (Some (record { kind = kind_number (Some k); point = take n out }))
asked (Err c) n out = H.Answer.refused (refusal_of c)

abbrev pub told : Result Outcome Refusal → ℕ → List Float → H.Answer
told (Ok o) n out = H.Answer.reported (report_of o (take n out))
told (Err c) n out = H.Answer.refused (refusal_of c)

-- The first k words of an output: k of them whatever its length, so that an answer tells the number that was returned.
abbrev pub first_of : ℕ → List ℕ → List ℕ
first_of zero out = []
first_of (suc k) [] = 0 ∷ first_of k []
first_of (suc k) (x ∷ out) = x ∷ first_of k out

abbrev pub entered : Result ℕ Refusal → List ℕ → H.Answer
entered (Ok k) out = H.Answer.entered (first_of k out)
entered (Err c) out = H.Answer.refused (refusal_of c)

abbrev pub saved : Result ℕ Refusal → List ℕ → H.Answer
saved (Ok k) out = H.Answer.saved (first_of k out)
saved (Err c) out = H.Answer.refused (refusal_of c)
