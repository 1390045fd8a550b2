-- Laws of a start: what the checks leave to the opening, and the fit just opened. Assumes nothing.
use Prim.Native.Nat.{ℕ}
use native.Mathlib.Omega.{arith}
use mathlib.Core.Path.{◌≡◌, refl}
use mathlib.Core.List.{List}
use Rattle.std.specs.Prelude.{None}
use borrow.Author.Tests.{ltb-false}
use lib.Dec.{ltb}
use lib.ListN.{length}
use lib.Ieee.{Float}
use Rattle.definition.specs.Problem as P
use Rattle.definition.specs.Problem.{◌then◌, validate, area_needed}
use Rattle.definition.specs.Log.{log_words}
use Rattle.definition.specs.Book.{opened_book}
use Rattle.definition.specs.Record.{check_area}
use Rattle.definition.proofs.Accepted.{both_passed, test_failed, accepted_in_limits}
use Rattle.area.proofs.Sizes.{behind}
use Rattle.problem.specs.Setups.{setup_in, places_in}
use Rattle.problem.specs.declared.Options.{Options}
use Rattle.fit.specs.declared.Fit.{Fit}
use Rattle.opening.specs.Opened.{Room, Fits, Opened}
use Rattle.held.specs.Test.{Marks}
use Rattle.held.proofs.Laws.{Reached, reached_marked, reached_held, opened_reached}
use Rattle.held.specs.Words.{words, Held}

-- what the checks of a setup leave to the opening
pub start_room : (o : Options) (x0 l u : List Float) (size k : ℕ)
    → (validate (setup_in o x0 l u) then check_area (record { area = size; log = k }) (setup_in o x0 l u)) ≡ None
    → Room o (length x0) size × Fits o (length x0) l u
start_room o x0 l u size k e =
    let s = setup_in o x0 l u in
    let p = both_passed (validate s) (check_area (record { area = size; log = k }) s) e in
    let h = accepted_in_limits s p.0 in
    let z = ltb-false size (area_needed s) (test_failed (ltb size (area_needed s)) _ p.1) in (
      record { all = omega (arith, z, behind (length x0) (places_in o)); few = h.pairs.1; some = h.pairs.0 },
      record { lower = λ b. rw b at h.lower; upper = λ b. rw b at h.upper },
    )

-- the fit just opened
pub start_reached : (s : P.Setup) (o : Options) (n k : ℕ) (a b : List Float) (t : Fit)
    → (validate s then check_area (record { area = length a; log = k }) s) ≡ None → Opened o n s a t b → Reached t b (opened_book s)
start_reached s o n k a b t e h =
    let p = both_passed (validate s) (check_area (record { area = length a; log = k }) s) e in
    let room = ltb-false (length a) (area_needed s) (test_failed (ltb (length a) (area_needed s)) _ p.1) in
    opened_reached p.0 (rw h.long room) h

pub start_held : {t : Fit} {a b : List Float} {s : P.Setup} (l : List ℕ) → Reached t a (opened_book s) → Marks t.shape a b → Held (words t b l) (opened_book s)
unfolding log_words
start_held l h m = reached_held (reached_marked h m) m.mark (rw h.words (omega arith)) (rw h.words refl)
