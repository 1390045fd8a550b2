-- Laws of the reads: the answer of each return, and what it writes. Assumes nothing.
use Prim.Native.Nat.{ℕ, ◌+◌, ◌*◌, ◌≤◌, ◌<◌}
use native.Mathlib.Omega.{arith}
use mathlib.Core.Path.{◌≡◌, refl, sym, ap, ap₂, ◌∙◌}
use mathlib.Core.Bool.{Bool, true, false}
use mathlib.Core.List.{List, []}
use Rattle.std.specs.Prelude.{Option, None, Some}
use borrow.Author.Tests.{lt-ltb, le-ltb}
use lib.Dec.{ltb}
use lib.ListN.{length, take, drop, length-append, length-drop, length-set}
use lib.Seq.{take_at, drop_at}
use lib.Ieee.{Float}
use Rattle.definition.specs.Gradient as G
use Rattle.definition.specs.Problem.{refuse, when, ◌then◌}
use Rattle.definition.specs.Machine as M
use Rattle.definition.specs.Record.{plain_refusal}
use Rattle.definition.specs.History as H
use Rattle.definition.specs.History.{Call, output_short, refused_by}
use Rattle.area.specs.Area.{Vecs, view, vector_x, vector_trial}
use Rattle.problem.specs.Setups.{refusal_of}
use Rattle.problem.specs.declared.Refusal.{Refusal}
use Rattle.fit.specs.State.{kind_number, machine, machine_of, phase_of}
use Rattle.fit.specs.declared.Kind.{Kind}
use Rattle.fit.specs.declared.Kind.TheVariants as K
use Rattle.fit.specs.declared.Fit.{Fit}
use Rattle.question.specs.Reports.{point_asked, written, report_of}
use Rattle.question.specs.declared.Outcome.{Outcome}
use Rattle.record.specs.Records.{setup_size}
use Rattle.held.specs.Test.{is_held}
use Rattle.lbfgsb.specs.Words.{words}
use Rattle.lbfgsb.specs.Bridge.{first_of}
use Rattle.lbfgsb.specs.Did.{Written, taken, Read}
use Rattle.lbfgsb.specs.Table.{question_of, question_answer, report_answer}
use Rattle.lbfgsb.specs.Table.{entry_in, entry_kept, short_log, entry_answer, record_in, save_answer}
use Rattle.lbfgsb.proofs.Firsts.{first_taken}
use Rattle.lbfgsb.proofs.Said.{on, off, report_from, entry_from, save_from, question_said, report_said, entry_said, save_said}
use Rattle.lookup.proofs.Saving.{vector_long, record_long}

-- ---- an output slice

untouched : {A : Type 0} (out : List A) → Written 0 out out
untouched out = record { within = omega arith; sized = refl; rest = refl }

-- words written from its front
put_front : {A : Type 0} (v out out' : List A) → out' ≡ written v out → take (length v) out' ≡ v
put_front v out out' e = ap (take (length v)) e ∙ take_at v (drop (length v) out) (length v) refl

put_rest : {A : Type 0} (v out out' : List A) → length v ≤ length out → out' ≡ written v out → Written (length v) out out'
put_rest v out out' h e = record {
  within = h;
  sized = ap length e ∙ length-append v (drop (length v) out) ∙ omega (arith, length-drop (length v) out);
  rest = ap (drop (length v)) e ∙ drop_at v (drop (length v) out) (length v) refl;
}

-- the words that a number returned stands for
put_first : (v out out' : List ℕ) (k : ℕ) → length v ≡ k → k ≤ length out → out' ≡ written v out → first_of k out' ≡ v
put_first v out out' k long h e =
    first_taken k out' (omega (arith, (put_rest v out out' (omega (arith, long)) e).sized))
    ∙ ap (λ (j : ℕ). take j out') (sym long)
    ∙ put_front v out out' e

fits : (room n : ℕ) (o : H.Answer) → n ≤ room → refused_by (output_short room n) o ≡ o
fits room n o h = rw (le-ltb room n h)

short : (room n : ℕ) (o : H.Answer) → room < n → refused_by (output_short room n) o ≡ H.Answer.refused (record { number = 19; first = n; second = 0 })
short room n o h = rw (lt-ltb room n h)

-- ---- the open question

pub number_above : (x : Kind) → kind_number (Some x) ≡ 0 → ⊥
number_above K.Value e = omega arith
number_above K.Gradient e = omega arith
number_above K.Notice e = omega arith

pub some_asked : (o : Option Kind) (x : Kind) {k : ℕ} → o ≡ Some x → kind_number o ≡ k → k ≡ 0 → ⊥
some_asked o x p e z = number_above x (sym (ap kind_number p) ∙ e ∙ z)

probe_long : (p : G.Probes) (side : M.Side) (i : ℕ) (x : List Float) → length (M.probe_point p side i x) ≡ length x
probe_long G.Probes.neither side i x = refl
probe_long (G.Probes.both r l) M.Side.right i x = length-set x i r
probe_long (G.Probes.both r l) M.Side.left i x = length-set x i l
probe_long (G.Probes.right_only r) side i x = length-set x i r
probe_long (G.Probes.left_only l) side i x = length-set x i l

-- there is one, of this kind and of n coordinates
record Asks (m : M.Machine) (p : M.Phase) (n : ℕ) : Type 0 where
  q : M.Question
  is : M.question_in m p ≡ Some q
  kind : q.kind ≡ M.kind_of p
  size : length q.point ≡ n

asks : (m : M.Machine) (p : M.Phase) (n : ℕ) → length m.trial.x ≡ n → length m.held.x ≡ n → (M.kind_of p ≡ 0 → ⊥) → Asks m p n
asks m (M.Phase.value w) n t x k = record { q = record { kind = 1; point = m.trial.x }; is = refl; kind = refl; size = t }
asks m (M.Phase.gradient w) n t x k = record { q = record { kind = 2; point = m.trial.x }; is = refl; kind = refl; size = t }
asks m (M.Phase.probe w i side) n t x k = record {
  q = record { kind = 1; point = M.probe_point (G.probes_at m.terms m.trial.x i) side i m.trial.x };
  is = refl;
  kind = refl;
  size = probe_long (G.probes_at m.terms m.trial.x i) side i m.trial.x ∙ t;
}
asks m M.Phase.notice n t x k = record { q = record { kind = 3; point = m.held.x }; is = refl; kind = refl; size = x }
asks m (M.Phase.ended t) n h x k = absurd (k refl)

ended : (m : M.Machine) (p : M.Phase) → M.kind_of p ≡ 0 → M.question_in m p ≡ None
ended m (M.Phase.value w) k = absurd (omega arith)
ended m (M.Phase.gradient w) k = absurd (omega arith)
ended m (M.Phase.probe w i side) k = absurd (omega arith)
ended m M.Phase.notice k = absurd (omega arith)
ended m (M.Phase.ended t) k = refl

module _ (t : Fit) (a : List Float) (l : List ℕ) (out : List Float) where
  abbrev Questioned : H.Answer → List Float → Type 0
  Questioned o out' = Read (Call.question (length out)) (words t a l) o out out'

  questioned : {o : H.Answer} {out' : List Float} → o ≡ question_answer (words t a l) (length out) → Written (taken o) out out' → Questioned o out'
  questioned e h = record { said = λ g k. e ∙ question_said (words t a l) (length out) g k; always = e; written = h }

  -- the answer for a held fit, by its question
  question_held : is_held t a ≡ true → {q : Option M.Question} → M.question (machine_of t a) ≡ q
      → question_of (words t a l) (length out) q ≡ question_answer (words t a l) (length out)
  question_held h {q} e =
      ap (question_of (words t a l) (length out)) (sym e)
      ∙ sym (on (is_held t a) (question_of (words t a l) (length out) (M.question (machine_of t a))) (H.Answer.asked None) h)

  pub question_unheld : is_held t a ≡ false → Questioned (H.Answer.asked None) out
  question_unheld h =
      questioned (sym (off (is_held t a) (question_of (words t a l) (length out) (M.question (machine_of t a))) (H.Answer.asked None) h)) (untouched out)

  pub question_ended : is_held t a ≡ true → M.kind_of (phase_of t.phase) ≡ 0 → Questioned (H.Answer.asked None) out
  question_ended h k = questioned (question_held h (ended (machine_of t a) (phase_of t.phase) k)) (untouched out)

  question_open : is_held t a ≡ true → (M.kind_of (phase_of t.phase) ≡ 0 → ⊥) → Asks (machine_of t a) (phase_of t.phase) t.shape.n
  question_open h k =
      asks (machine_of t a) (phase_of t.phase) t.shape.n (vector_long t a vector_trial (omega arith) h) (vector_long t a vector_x (omega arith) h) k

  pub question_short : (c : Refusal) → is_held t a ≡ true → (M.kind_of (phase_of t.phase) ≡ 0 → ⊥) → length out < t.shape.n
      → refusal_of c ≡ record { number = 19; first = t.shape.n; second = 0 } → Questioned (H.Answer.refused (refusal_of c)) out
  question_short c h k s e =
      let q = question_open h k in
      questioned (ap H.Answer.refused e ∙ sym (short (length out) t.shape.n (H.Answer.asked (Some q.q)) s) ∙ question_held h q.is) (untouched out)

  pub question_put : (kind : ℕ) (out' : List Float) → is_held t a ≡ true → (kind ≡ 0 → ⊥) → t.shape.n ≤ length out → kind ≡ M.kind_of (phase_of t.phase)
      → out' ≡ written (point_asked (M.question (machine_of t a))) out
      → Questioned (H.Answer.asked (Some (record { kind = kind; point = take t.shape.n out' }))) out'
  question_put kind out' h k r e d =
      let u = question_open h (λ z. k (e ∙ z)) in
      let p = u.q.point in
      let n = t.shape.n in
      let is : out' ≡ written p out = d ∙ ap (λ (q : Option M.Question). written (point_asked q) out) u.is in
      let front : take n out' ≡ p = ap (λ (j : ℕ). take j out') (sym u.size) ∙ put_front p out out' is in
      let rest : Written (length p) out out' = put_rest p out out' (omega (arith, u.size)) is in
      questioned
      (ap₂ (λ (k : ℕ) (v : List Float). H.Answer.asked (Some (record { kind = k; point = v }))) (e ∙ sym u.kind) front
      ∙ sym (fits (length out) n (H.Answer.asked (Some u.q)) r)
      ∙ question_held h u.is)
      (rw front rest)

-- ---- the report

module _ (t : Fit) (a : List Float) (l : List ℕ) (out : List Float) where
  abbrev Reported : H.Answer → List Float → Type 0
  Reported o out' = Read (Call.report (length out)) (words t a l) o out out'

  reported : {o : H.Answer} {out' : List Float} → o ≡ report_answer (words t a l) (length out) → Written (taken o) out out' → Reported o out'
  reported e h = record { said = λ g k. e ∙ report_said (words t a l) (length out) g k; always = e; written = h }

  report_held : {o : H.Answer} (b : Bool) → is_held t a ≡ true → M.unreported (phase_of t.phase) ≡ b
      → o ≡ refused_by (when b (refuse 15 0 0) then output_short (length out) t.shape.n) (H.Answer.reported (M.report_now (machine_of t a)))
      → o ≡ report_answer (words t a l) (length out)
  report_held b h u e =
      e
      ∙ ap (λ (b : Bool). refused_by (when b (refuse 15 0 0) then output_short (length out) t.shape.n) (H.Answer.reported (M.report_now (machine_of t a))))
      (sym u)
      ∙ sym (on (is_held t a) (report_from (length out) t.shape.n (machine_of t a)) (H.Answer.refused (plain_refusal 15)) h)

  pub report_short : (c : Refusal) → is_held t a ≡ true → M.unreported (phase_of t.phase) ≡ false → length out < t.shape.n
      → refusal_of c ≡ record { number = 19; first = t.shape.n; second = 0 } → Reported (H.Answer.refused (refusal_of c)) out
  report_short c h u s e =
      let told = short (length out) t.shape.n (H.Answer.reported (M.report_now (machine_of t a))) s in
      reported (report_held false h u (ap H.Answer.refused e ∙ sym told)) (untouched out)

  pub report_put : (r : Outcome) (out' : List Float) → is_held t a ≡ true → M.unreported (phase_of t.phase) ≡ false → t.shape.n ≤ length out
      → ((v : Vecs) → report_of r (v vector_x) ≡ M.report_now (machine t v)) → out' ≡ written (machine_of t a).held.x out
      → Reported (H.Answer.reported (report_of r (take t.shape.n out'))) out'
  report_put r out' h u s e d =
      let n = t.shape.n in
      let v = view a n vector_x in
      let long : length v ≡ n = vector_long t a vector_x (omega arith) h in
      let front : take n out' ≡ v = ap (λ (j : ℕ). take j out') (sym long) ∙ put_front v out out' d in
      let rest : Written (length v) out out' = put_rest v out out' (omega (arith, long)) d in
      reported
      (report_held false h u
      (ap (λ (x : List Float). H.Answer.reported (report_of r x)) front
      ∙ ap H.Answer.reported (e (view a n))
      ∙ sym (fits (length out) n (H.Answer.reported (M.report_now (machine_of t a))) s)))
      (rw front rest)

-- ---- how many replies

-- ---- an entry

module _ (t : Fit) (a : List Float) (l : List ℕ) (k : ℕ) (out : List ℕ) where
  abbrev Entered : H.Answer → List ℕ → Type 0
  Entered o out' = Read (Call.entry k (length out)) (words t a l) o out out'

  entered_by : {o : H.Answer} {out' : List ℕ} → o ≡ entry_answer (words t a l) k (length out) → Written (taken o) out out' → Entered o out'
  entered_by e h = record { said = λ g i. e ∙ entry_said (words t a l) k (length out) g i; always = e; written = h }

  -- the log is long enough, and the entry's words are ws
  entry_held : {o : H.Answer} (ws : List ℕ) → is_held t a ≡ true → t.extra.words ≤ length l → entry_kept (words t a l) k ≡ ws
      → o ≡ refused_by (output_short (length out) (length ws)) (H.Answer.entered ws) → o ≡ entry_answer (words t a l) k (length out)
  entry_held ws h r w e =
      e
      ∙ ap₂ (λ (b : Bool) (ws : List ℕ). entry_from (when b (refuse 12 0 0)) (length out) ws) (sym (le-ltb (length l) t.extra.words r)) (sym w)
      ∙ sym (on (is_held t a) (entry_from (short_log (words t a l)) (length out) (entry_kept (words t a l) k)) (H.Answer.entered []) h)

  -- the words of entry k, which is there
  entry_found : k < t.extra.entries → entry_kept (words t a l) k ≡ entry_in t.shape.n k (take t.extra.words l)
  entry_found s = rw (lt-ltb k t.extra.entries s)

  pub entry_short : (c : Refusal) (v : List ℕ) → is_held t a ≡ true → t.extra.words ≤ length l → k < t.extra.entries
      → v ≡ entry_in t.shape.n k (take t.extra.words l) → length out < length v
      → refusal_of c ≡ record { number = 19; first = length v; second = 0 } → Entered (H.Answer.refused (refusal_of c)) out
  entry_short c v h r s e z d =
      entered_by
      (entry_held v h r (entry_found s ∙ sym e) (ap H.Answer.refused d ∙ sym (short (length out) (length v) (H.Answer.entered v) z)))
      (untouched out)

  pub entry_put : (v : List ℕ) (out' : List ℕ) → is_held t a ≡ true → t.extra.words ≤ length l → k < t.extra.entries
      → v ≡ entry_in t.shape.n k (take t.extra.words l) → length v ≤ length out → out' ≡ written v out
      → Entered (H.Answer.entered (first_of (length v) out')) out'
  entry_put v out' h r s e z d =
      let front : first_of (length v) out' ≡ v = put_first v out out' (length v) refl z d in
      let rest : Written (length v) out out' = put_rest v out out' z d in
      entered_by
      (entry_held v h r (entry_found s ∙ sym e) (ap H.Answer.entered front ∙ sym (fits (length out) (length v) (H.Answer.entered v) z)))
      (rw front rest)

-- ---- the record

module _ (t : Fit) (a : List Float) (l : List ℕ) (out : List ℕ) where
  abbrev Saved : H.Answer → List ℕ → Type 0
  Saved o out' = Read (Call.save (length out)) (words t a l) o out out'

  abbrev whole : List ℕ
  whole = record_in (words t a l)

  saved_by : {o : H.Answer} {out' : List ℕ} → o ≡ save_answer (words t a l) (length out) → Written (taken o) out out' → Saved o out'
  saved_by e h = record { said = λ g i. e ∙ save_said (words t a l) (length out) g i; always = e; written = h }

  save_held : {o : H.Answer} (b : Bool) → is_held t a ≡ true → ltb (length l) t.extra.words ≡ b
      → o ≡ save_from (when b (refuse 12 0 0)) (length out) (length whole) whole
      → o ≡ save_answer (words t a l) (length out)
  save_held b h s e =
      e
      ∙ ap (λ (b : Bool). save_from (when b (refuse 12 0 0)) (length out) (length whole) whole) (sym s)
      ∙ sym (on (is_held t a) (save_from (short_log (words t a l)) (length out) (length whole) whole) (H.Answer.saved []) h)

  pub save_short : (c : Refusal) (size : ℕ) → is_held t a ≡ true → t.extra.words ≤ length l → size ≡ setup_size t.options.bounded t.shape.n
      → length out < 8 * (size + t.extra.words + 4) → refusal_of c ≡ record { number = 19; first = 8 * (size + t.extra.words + 4); second = 0 }
      → Saved (H.Answer.refused (refusal_of c)) out
  save_short c size h r n s e =
      let long : 8 * (size + t.extra.words + 4) ≡ length whole = ap (λ (k : ℕ). 8 * (k + t.extra.words + 4)) n ∙ sym (record_long t a l h r) in
      saved_by
      (save_held false h (le-ltb (length l) t.extra.words r)
      (ap H.Answer.refused e
      ∙ sym (short (length out) (8 * (size + t.extra.words + 4)) (H.Answer.saved whole) s)
      ∙ ap (λ (j : ℕ). refused_by (output_short (length out) j) (H.Answer.saved whole)) long))
      (untouched out)

  pub save_put : (size : ℕ) (out' : List ℕ) → is_held t a ≡ true → t.extra.words ≤ length l → size ≡ setup_size t.options.bounded t.shape.n
      → 8 * (size + t.extra.words + 4) ≤ length out → out' ≡ written (record_in (words t a l)) out
      → Saved (H.Answer.saved (first_of (8 * (size + t.extra.words + 4)) out')) out'
  save_put size out' h r n s d =
      let needed = 8 * (size + t.extra.words + 4) in
      let long : length whole ≡ needed = record_long t a l h r ∙ ap (λ (k : ℕ). 8 * (k + t.extra.words + 4)) (sym n) in
      let front : first_of needed out' ≡ whole = put_first whole out out' needed long s d in
      let rest : Written (length whole) out out' = put_rest whole out out' (omega (arith, long)) d in
      saved_by
      (save_held false h (le-ltb (length l) t.extra.words r)
      (ap H.Answer.saved front ∙ sym (fits (length out) (length whole) (H.Answer.saved whole) (omega (arith, long)))))
      (rw front rest)
