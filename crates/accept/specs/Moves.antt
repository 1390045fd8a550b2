-- What the parts of a reply do: the check, the entry in the log, the fit advanced and counted.
use Rattle.std.specs.Prelude.{ℕ, ◌+◌, ◌≡◌, true, List, ◌++◌, map, ltb, length, take, drop, Float}
use Rattle.definition.specs.Number.{to_float}
use Rattle.definition.specs.Problem.{Check, refuse, when, ◌then◌}
use Rattle.definition.specs.Machine as M
use Rattle.definition.specs.Machine.{check_due}
use Rattle.definition.specs.Driver.{answer}
use Rattle.definition.specs.Log.{entry_words}
use Rattle.area.specs.Area.{Vecs, view, upd, Saved, vector_trial_gradient}
use Rattle.compact.specs.State.{Sound}
use Rattle.search.specs.State.{Settled}
use Rattle.fit.specs.State.{machine_of}
use Rattle.fit.specs.declared.Fit.{Fit}
use Rattle.opening.specs.Opened.{setup_at}
use Rattle.held.specs.Test.{marked}
use Rattle.driver.specs.declared.Reply.{Reply}
use Rattle.driver.specs.declared.Reply.TheVariants as R

-- ws in place of the words from `at` on
abbrev pub written : ℕ → List ℕ → List ℕ → List ℕ
written at ws log = take at log ++ ws ++ drop (at + length ws) log

-- the words of a gradient stand as floats in the trial's gradient
abbrev pub stored : Reply → List ℕ → Vecs → Vecs
stored (R.Value w) ws v = v
stored R.Gradient ws v = upd v vector_trial_gradient (map to_float ws)
stored R.NotSupplied ws v = v
stored R.GoOn ws v = v
stored R.Stop ws v = v
stored R.Failure ws v = v

-- whether the reply is due, and then whether its entry has room in a log of `room` words
abbrev pub check_said : Fit → List Float → ℕ → M.Reply → Check
check_said t a room r = check_due (machine_of t a) r then when (ltb room (t.extra.words + length (entry_words r))) (refuse 12 0 0)

-- f with the marked area b is t with a advanced by the reply r, which is counted
pub record Advances (r : M.Reply) (t : Fit) (a : List Float) (f : Fit) (b : List Float) : Type 0 where
  pub n : f.shape.n ≡ t.shape.n
  pub m : f.shape.m ≡ t.shape.m
  pub sound : Sound f.shape (length a)
  pub settled : Settled t.search → Settled f.search
  pub setup : setup_at f.options (view b f.shape.n) ≡ setup_at t.options (view a t.shape.n)
  pub saved : Saved (view a t.shape.n) (view b t.shape.n)
  pub mark : marked f.shape b ≡ true
  pub is : machine_of f b ≡ answer (machine_of t a) r
  pub entries : f.extra.entries ≡ t.extra.entries + 1
  pub words : f.extra.words ≡ t.extra.words + length (entry_words r)
