-- Laws of a reply's parts: its checks, its words in the area, and the fit that it advances. Assumes nothing.
use Prim.Native.Nat.{ℕ, ◌+◌, ◌≤◌, ◌<◌}
use native.Mathlib.Omega.{arith}
use mathlib.Core.Path.{◌≡◌, refl, ap, ◌∙◌}
use mathlib.Core.Bool.{true, false, not, false≢true}
use mathlib.Core.List.{List, map}
use Rattle.std.specs.Prelude.{None}
use borrow.Author.Tests.{lt-ltb, le-ltb, leb-true, leb-false, ltb-false, eqb-true, not-false}
use lib.Dec.{eqb, ltb, leb}
use lib.ListN.{length, replicate, length-replicate}
use lib.Ieee.{Float}
use Rattle.definition.specs.Number.{to_float}
use Rattle.definition.specs.Problem.{Terms, most_coordinates, refuse, when, ◌then◌}
use Rattle.definition.specs.Machine as M
use Rattle.definition.specs.Machine.{Machine, kind_of, suits, takes, check_length, check_due}
use Rattle.definition.specs.Driver.{answer, answer_in, with_gradient, on_gradient}
use Rattle.definition.specs.Log.{entry_words}
use Rattle.definition.proofs.Accepted.{both_passed, test_failed, due_taken}
use Rattle.area.specs.Area.{Vecs, view, Saved, vector_x0, vector_trial_gradient}
use Rattle.area.proofs.Laws.{saved_refl, saved_trans, saved_upd}
use Rattle.compact.specs.State.{Sound}
use Rattle.fit.specs.State.{machine, machine_of, phase_of, Steps}
use Rattle.fit.specs.declared.Extra.{Extra}
use Rattle.fit.specs.declared.Fit.{Fit}
use Rattle.fit.proofs.Laws.{put}
use Rattle.problem.specs.Setups.{check_of}
use Rattle.std.specs.Prelude.{Result, Ok, Err}
use Rattle.problem.specs.declared.Options.{Options}
use Rattle.problem.specs.declared.Refusal.{Refusal}
use Rattle.opening.specs.Opened.{setup_at}
use Rattle.record.specs.Records.{entry_size}
use Rattle.fit.specs.State.{most_words, more_kept, with_extra}
use Rattle.held.specs.Test.{Marks}
use Rattle.driver.specs.Replies.{supplied_in, advanced}
use Rattle.driver.specs.declared.Reply.{Reply}
use Rattle.driver.specs.declared.Reply.TheVariants as R
use Rattle.held.proofs.Test.{marked_machine}
use Rattle.driver.proofs.Steps.{DueSaid, due_then}
use Rattle.driver.specs.Replies.{replied}
use Rattle.driver.proofs.Answers.{terms_stay}
use Rattle.driver.specs.Replies.{entry_kind}
use Rattle.accept.specs.Moves.{stored, check_said, Advances}
use Rattle.accept.proofs.Checks.{passed, first_refuses, rest_decides}
use Rattle.held.proofs.Laws.{setup_same, marked_setup, marks_saved}

-- ---- 14: the length of a gradient

-- a gradient whose length passed has n words
pub length_passed : (n : ℕ) (r : Reply) (ws : List ℕ) → check_length n (replied r ws) ≡ None → entry_kind r ≡ 2 → length ws ≡ n
length_passed n (R.Value v) ws e k = absurd (omega arith)
length_passed n R.Gradient ws e k = eqb-true (length ws) n (not-false (eqb (length ws) n) (test_failed (not (eqb (length ws) n)) _ e))
length_passed n R.NotSupplied ws e k = absurd (omega arith)
length_passed n R.GoOn ws e k = absurd (omega arith)
length_passed n R.Stop ws e k = absurd (omega arith)
length_passed n R.Failure ws e k = absurd (omega arith)

pub due_long : (t : Fit) (a : List Float) (r : Reply) (ws : List ℕ) → check_due (machine_of t a) (replied r ws) ≡ None → entry_kind r ≡ 2
    → length ws ≡ t.shape.n
due_long t a r ws e =
    length_passed t.shape.n r ws
    (both_passed (when (not (takes (machine_of t a) (replied r ws))) (refuse 13 0 0)) (check_length t.shape.n (replied r ws)) e).1

-- ---- the size of an entry

pub entry_size_lem : (n : ℕ) (r : Reply) (ws : List ℕ) → (entry_kind r ≡ 2 → length ws ≡ n) → entry_size (entry_kind r) n ≡ length (entry_words (replied r ws))
entry_size_lem n (R.Value v) ws h = refl
entry_size_lem n R.Gradient ws h = let e = h refl in omega arith
entry_size_lem n R.NotSupplied ws h = refl
entry_size_lem n R.GoOn ws h = refl
entry_size_lem n R.Stop ws h = refl
entry_size_lem n R.Failure ws h = refl

pub entry_few : (n : ℕ) (r : Reply) → n ≤ most_coordinates → entry_size (entry_kind r) n < most_words
entry_few n (R.Value v) h = omega arith
entry_few n R.Gradient h = omega arith
entry_few n R.NotSupplied h = omega arith
entry_few n R.GoOn h = omega arith
entry_few n R.Stop h = omega arith
entry_few n R.Failure h = omega arith

-- ---- 12: room in the log

pub no_room : (room words length : ℕ) → leb (words + length) room ≡ false → refuse 12 0 0 ≡ when (ltb room (words + length)) (refuse 12 0 0)
no_room room words length h = rw (lt-ltb room (words + length) (leb-false (words + length) room h)) refl

pub some_room : (room words length : ℕ) → leb (words + length) room ≡ true → None ≡ when (ltb room (words + length)) (refuse 12 0 0)
some_room room words length h = rw (le-ltb room (words + length) (leb-true (words + length) room h)) refl

-- ---- the whole check

-- what `check_due` says, and with it the length
module _ (t : Fit) (a : List Float) (r : Reply) (ws : List ℕ) (c : Result Unit Refusal) (said : DueSaid t r c) where
  abbrev any : List ℕ
  any = replicate t.shape.n 0

  said_any : check_of c ≡ check_due (machine_of t a) (replied r any)
  said_any = said (view a t.shape.n) any (length-replicate t.shape.n 0)

  then_length : (check_due (machine_of t a) (replied r any) then check_length t.shape.n (replied r ws)) ≡ check_due (machine_of t a) (replied r ws)
  then_length = due_then (machine_of t a) r ws any (length-replicate t.shape.n 0)

  pub said_undue : {q : Refusal} → c ≡ Err q → check_of c ≡ check_due (machine_of t a) (replied r ws)
  said_undue e = first_refuses _ e said_any ∙ then_length

  pub said_due : {u : Unit} → c ≡ Ok u → check_length t.shape.n (replied r ws) ≡ check_due (machine_of t a) (replied r ws)
  said_due e = rest_decides _ (passed e said_any) ∙ then_length

-- the check passed: the reply is due, and its entry has room
pub said_passed : (t : Fit) (a : List Float) (l : List ℕ) (r : M.Reply) → check_said t a (length l) r ≡ None
    → (check_due (machine_of t a) r ≡ None) × (t.extra.words + length (entry_words r) ≤ length l)
said_passed t a l r e =
    let p = both_passed (check_due (machine_of t a) r) (when (ltb (length l) (t.extra.words + length (entry_words r))) (refuse 12 0 0)) e in
    (p.0, ltb-false (length l) _ (test_failed (ltb (length l) (t.extra.words + length (entry_words r))) _ p.1))

-- ---- a gradient's words in the area

-- the start and the free vectors stay
stored_saved : (r : Reply) (ws : List ℕ) (v : Vecs) → Saved v (stored r ws v)
stored_saved (R.Value w) ws v = saved_refl
stored_saved R.Gradient ws v = saved_upd vector_trial_gradient (map to_float ws) (omega arith) (λ e. omega arith) saved_refl
stored_saved R.NotSupplied ws v = saved_refl
stored_saved R.GoOn ws v = saved_refl
stored_saved R.Stop ws v = saved_refl
stored_saved R.Failure ws v = saved_refl

-- ---- the fit advanced

-- a gradient whose floats stand in the machine already
gradient_answer : (p : M.Phase) (m : Machine) (ws : List ℕ) → suits (kind_of p) (M.Reply.gradient ws) ≡ true
    → supplied_in p (with_gradient (map to_float ws) m) ≡ answer_in p m (M.Reply.gradient ws)
unfolding on_gradient
gradient_answer (M.Phase.value w) m ws e = absurd (false≢true e)
gradient_answer (M.Phase.gradient w) m ws e = refl
gradient_answer (M.Phase.probe w i side) m ws e = absurd (false≢true e)
gradient_answer M.Phase.notice m ws e = absurd (false≢true e)
gradient_answer (M.Phase.ended t) m ws e = absurd (false≢true e)

said_answer : (t : Fit) (v : Vecs) (r : Reply) (ws : List ℕ) → takes (machine t v) (replied r ws) ≡ true
    → advanced r (machine t (stored r ws v)) ≡ answer (machine t v) (replied r ws)
said_answer t v (R.Value w) ws h = refl
said_answer t v R.Gradient ws h =
    ap (advanced R.Gradient) (put t v vector_trial_gradient (map to_float ws) (omega arith)) ∙ gradient_answer (phase_of t.phase) (machine t v) ws h
said_answer t v R.NotSupplied ws h = refl
said_answer t v R.GoOn ws h = refl
said_answer t v R.Stop ws h = refl
said_answer t v R.Failure ws h = refl

-- t with the area a, the reply's words stored (b), advanced (f with d), marked (e) and counted
pub advances : (t : Fit) (a b : List Float) (r : Reply) (ws : List ℕ) (f : Fit) (d e : List Float) (k : ℕ)
    → Sound t.shape (length a) → M.InRange (phase_of t.phase) t.shape.n → check_due (machine_of t a) (replied r ws) ≡ None
    → view b t.shape.n ≡ stored r ws (view a t.shape.n)
    → Steps (advanced r) t b f d → length d ≡ length a → Marks f.shape d e → k ≡ length (entry_words (replied r ws))
    → Advances (replied r ws) t a (with_extra (more_kept f.extra k) f) e
advances t a b r ws f d e k s i c g h z m l =
    let q = replied r ws in
    let takes-it = due_taken (machine_of t a) q c in
    let sound = h.sound (length a) s in
    let is : machine_of f d ≡ answer (machine_of t a) q =
    h.is ∙ ap (λ (v : Vecs). advanced r (machine t v)) g ∙ said_answer t (view a t.shape.n) r ws takes-it in
    let terms : (machine_of f d).terms ≡ (machine_of t a).terms = ap (λ (m : Machine). m.terms) is ∙ terms_stay t (view a t.shape.n) q i takes-it in
    let saved : Saved (view a t.shape.n) (view d t.shape.n) =
    saved_trans (stored_saved r ws (view a t.shape.n)) (rw g at h.saved) in
    let x0 : view d f.shape.n vector_x0 ≡ view a t.shape.n vector_x0 = ap (λ (n : ℕ). view d n vector_x0) h.n ∙ saved.x0 in
    let marked : Saved (view d t.shape.n) (view e t.shape.n) = rw h.n at (marks_saved m) in
    record {
      n = h.n;
      m = h.m;
      sound = sound;
      settled = h.kept.settled;
      setup =
          marked_setup f.options f d e m
          ∙ setup_same f.options (view a t.shape.n) (view d f.shape.n) x0 (ap (λ (k : Terms). k.bounds.lower) terms)
          (ap (λ (k : Terms). k.bounds.upper) terms)
          ∙ ap (λ (o : Options). setup_at o (view a t.shape.n)) h.kept.options;
      saved = saved_trans saved marked;
      mark = m.mark;
      is = marked_machine f d e (rw z sound) m ∙ is;
      entries = ap (λ (x : Extra). x.entries + 1) h.kept.extra;
      words = λ i. (h.kept.extra i).words + l i;
    }
