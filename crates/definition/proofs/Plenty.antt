-- A record of at most 65,536 bytes never finds an area of 6,208 words or a log of 8,192 too short: it is read as into any larger ones, and refusals 11
-- and 12 never come, neither of an input nor from the report program or the C entry. Assumes nothing.
use Prim.Native.Nat.{ℕ, ◌+◌, ◌-◌, ◌*◌, ◌≤◌}
use native.Mathlib.Omega.{arith}
use mathlib.Core.Path.{◌≡◌, refl, ap, ap₂, subst}
use mathlib.Core.Logic.{◌≢◌, ◌⊎◌, inl, inr}
use mathlib.Core.Bool.{Bool, true, false, false≢true, not, cond}
use mathlib.Core.List.{List, [], ◌∷◌, ◌++◌}
use Rattle.std.specs.Prelude.{None, Some}
use lib.Dec.{eqb, ltb, leb, leb→le}
use lib.ListN.{length, get_or, drop, length-drop}
use lib.Ieee.{Float}
use borrow.Author.Tests.{ltb-false, le-ltb}
use Rattle.definition.specs.Problem.{Setup, Refusal, Check, refuse, when, ◌then◌, validate, area_needed}
use Rattle.definition.specs.Machine.{Machine, Phase, Report, probe_point, question_in, status_of, unreported, report_now}
use Rattle.definition.specs.Gradient.{probes_at}
use Rattle.definition.specs.Log.{Entries, entries_of}
use Rattle.definition.specs.Book.{run_of}
use Rattle.definition.specs.Record.{Lengths, Reading, plain_refusal, setup_in, setup_length, known_version, words_of, reading_of, check_area}
use Rattle.definition.specs.Record.{same_sums, malformed, check_words, unless_refused, read_words, framed, read_trailed, read_record}
use Rattle.definition.specs.History.{setup_row, among}
use Rattle.definition.specs.Programs.{plenty, most_bytes, input_area, input_log, read_input, Printed, printed_of}
use Rattle.definition.specs.Programs.{printed, Returned, return_point, return_fit, return_of, returned}
use Rattle.definition.proofs.Tests.{by_test, both_hold}
use Rattle.definition.proofs.Bytes.{words_of-length}
use Rattle.definition.proofs.Entries.{Unshort, after_alike}
use Rattle.definition.proofs.Lengths.{area_bounded}
use Rattle.definition.proofs.Numbered.{Numbered, wider, tested, both, setup_numbered}

-- ---- the record

pub record Enough (z : Lengths) : Type 0 where
  pub area : input_area ≤ z.area
  pub log : input_log ≤ z.log

-- the words that a trailer points back to
abbrev body : List ℕ → List ℕ → List ℕ
body bs t = words_of (get_or t 3 0) (drop (length bs - 32 - 8 * get_or t 3 0) bs)

body_few : (bs t : List ℕ) → length bs ≤ most_bytes → framed (length bs) t ≡ true → length (body bs t) ≤ input_log
body_few bs t h e =
    let k = (both_hold (known_version (get_or t 2 0)) (leb (8 * get_or t 3 0) (length bs - 32)) e).1 in
    omega (arith, words_of-length (get_or t 3 0) (drop (length bs - 32 - 8 * get_or t 3 0) bs), leb→le (8 * get_or t 3 0) (length bs - 32) k)

module _ (z large : Lengths) (a : Enough z) (b : Enough large) where
  rest_alike : (s : Setup) (ws : List ℕ) → length ws ≤ input_log → entries_of s z.log ws ≡ entries_of s large.log ws
  rest_alike s ws h = (after_alike s z.log large.log ws (omega (arith, a.log)) (omega (arith, b.log)) (length ws + 1)).0

  area_alike : (s : Setup) → (validate s then check_area z s) ≡ (validate s then check_area large s)
  area_alike s = go (validate s) refl
    where
      go : (c : Check) → validate s ≡ c → (c then check_area z s) ≡ (c then check_area large s)
      go (Some r) e = refl
      go None e =
          let k = area_bounded s e in
          rw (le-ltb z.area (area_needed s) (omega (arith, k, a.area)), le-ltb large.area (area_needed s) (omega (arith, k, b.area)))

  words_alike : (ws : List ℕ) (p q : ℕ) → length ws ≤ input_log → read_words z ws p q ≡ read_words large ws p q
  unfolding read_words check_words
  words_alike ws p q h =
      let s = setup_in ws in
      let k = setup_length (get_or ws 0 0) in
      ap₂
      (λ (c : Check) (e : Entries).
      unless_refused (when (not (same_sums ws p q)) (refuse 18 0 0) then when (malformed ws) (refuse 17 0 0) then c) (reading_of s e))
      (area_alike s)
      (rest_alike s (drop k ws) (omega (arith, length-drop k ws)))

  trailed_alike : (bs t : List ℕ) → length bs ≤ most_bytes → read_trailed z bs t ≡ read_trailed large bs t
  trailed_alike bs t h = go (framed (length bs) t) refl
    where
      go : (f : Bool) → framed (length bs) t ≡ f
          → cond f (read_words z (body bs t) (get_or t 0 0) (get_or t 1 0)) (Reading.refused (plain_refusal 17))
          ≡ cond f (read_words large (body bs t) (get_or t 0 0) (get_or t 1 0)) (Reading.refused (plain_refusal 17))
      go false e = refl
      go true e = words_alike (body bs t) (get_or t 0 0) (get_or t 1 0) (body_few bs t h e)

  pub read_alike : (bs : List ℕ) → length bs ≤ most_bytes → read_record z bs ≡ read_record large bs
  unfolding read_record
  read_alike bs h =
      ap (cond (ltb (length bs) 32) (Reading.refused (plain_refusal 17))) (trailed_alike bs (words_of 4 (drop (length bs - 32) bs)) h)

-- ---- as into any larger ones

pub read_plenty : (bs : List ℕ) → length bs ≤ most_bytes → read_record (record { area = input_area; log = input_log }) bs ≡ read_record plenty bs
read_plenty bs h = read_alike _ plenty (record { area = omega arith; log = omega arith }) (record { area = omega arith; log = omega arith }) bs h

-- ---- the refusals of an input

-- the numbers ahead of the entries: a record's but for 11 and 12
abbrev input_row : List ℕ
input_row = setup_row ++ (17 ∷ 18 ∷ [])

-- at an entry it is 17
abbrev InputNumbered : Reading → Type 0
InputNumbered (Reading.accepted b) = Unit {0}
InputNumbered (Reading.refused c) = among c.number input_row ≡ true
InputNumbered (Reading.refused_at_entry c) = c.number ≡ 17

unless : (c : Check) (r : Reading) → Numbered input_row c → InputNumbered r → InputNumbered (unless_refused c r)
unless None r h k = k
unless (Some c) r (Numbered.refuses h) k = h

module _ (z : Lengths) (a : Enough z) where
  area_enough : (s : Setup) → Numbered input_row (validate s then check_area z s)
  area_enough s = go (validate s) refl (wider setup_row input_row (validate s) refl (setup_numbered s))
    where
      go : (c : Check) → validate s ≡ c → Numbered input_row c → Numbered input_row (c then check_area z s)
      go (Some r) e h = h
      go None e h = rw (le-ltb z.area (area_needed s) (omega (arith, area_bounded s e, a.area))) Numbered.passes

  rest_enough : (s : Setup) (ws : List ℕ) → length ws ≤ input_log → InputNumbered (reading_of s (entries_of s z.log ws))
  rest_enough s ws h =
      let fits : length ws ≤ z.log = omega (arith, a.log) in
      go (entries_of s z.log ws) (after_alike s z.log z.log ws fits fits (length ws + 1)).1
    where
      go : (e : Entries) → Unshort e → InputNumbered (reading_of s e)
      go (Entries.kept rs) h = tt
      go (Entries.refused_at c) h = h
      go (Entries.going ws rs m) h = refl

  words_enough : (ws : List ℕ) (p q : ℕ) → length ws ≤ input_log → InputNumbered (read_words z ws p q)
  unfolding read_words check_words
  words_enough ws p q h =
      let s = setup_in ws in
      let k = setup_length (get_or ws 0 0) in
      let form = both (when (malformed ws) (refuse 17 0 0)) (validate s then check_area z s) (tested (malformed ws) 17 0 0 refl) (area_enough s) in
      unless (check_words z ws p q) (reading_of s (entries_of s z.log (drop k ws)))
      (both (when (not (same_sums ws p q)) (refuse 18 0 0)) (when (malformed ws) (refuse 17 0 0) then validate s then check_area z s)
      (tested (not (same_sums ws p q)) 18 0 0 refl) form)
      (rest_enough s (drop k ws) (omega (arith, length-drop k ws)))

  record_enough : (bs : List ℕ) → length bs ≤ most_bytes → InputNumbered (read_record z bs)
  unfolding read_record
  record_enough bs h =
      let t = words_of 4 (drop (length bs - 32) bs) in
      by_test InputNumbered (ltb (length bs) 32) (λ _. refl) (λ _.
      by_test InputNumbered (framed (length bs) t) (λ e. words_enough (body bs t) (get_or t 0 0) (get_or t 1 0) (body_few bs t h e)) (λ _. refl))

pub input_refusals : (bs : List ℕ) → InputNumbered (read_input bs)
unfolding read_input
input_refusals bs =
    by_test InputNumbered (ltb most_bytes (length bs)) (λ _. refl) (λ e.
    record_enough plenty (record { area = omega arith; log = omega arith }) bs (ltb-false most_bytes (length bs) e))

-- ---- never 11, never 12

abbrev Roomy : Reading → Type 0
Roomy (Reading.accepted b) = Unit {0}
Roomy (Reading.refused c) = (c.number ≢ 11) × (c.number ≢ 12)
Roomy (Reading.refused_at_entry c) = (c.number ≢ 11) × (c.number ≢ 12)

input_roomy : (bs : List ℕ) → Roomy (read_input bs)
input_roomy bs = go (read_input bs) (input_refusals bs)
  where
    go : (d : Reading) → InputNumbered d → Roomy d
    go (Reading.accepted b) h = tt
    go (Reading.refused c) h =
        (λ e. false≢true (subst (λ (k : ℕ). among k input_row ≡ true) e h), λ e. false≢true (subst (λ (k : ℕ). among k input_row ≡ true) e h))
    go (Reading.refused_at_entry c) h = (λ e. omega arith, λ e. omega arith)

-- whether an input is refused ahead of the entries or at one
pub never_short : (bs : List ℕ) (c : Refusal)
    → (read_input bs ≡ Reading.refused c) ⊎ (read_input bs ≡ Reading.refused_at_entry c) → (c.number ≢ 11) × (c.number ≢ 12)
never_short bs c (inl e) = subst Roomy e (input_roomy bs)
never_short bs c (inr e) = subst Roomy e (input_roomy bs)

-- ---- the report program never prints 11 or 12

abbrev PrintsOther : Printed → Type 0
PrintsOther p = (p ≢ Printed.refused 11) × (p ≢ Printed.refused 12)

other_number : (k : ℕ) → (k ≢ 11) × (k ≢ 12) → PrintsOther (Printed.refused k)
other_number k h = (λ e. h.0 (cc), λ e. h.1 (cc))

lines_other : (r : Report) → PrintsOther (Printed.lines r)
lines_other r = (λ e. let z : ◌≡◌ {A = ℕ} 0 1 = cc in omega arith, λ e. let z : ◌≡◌ {A = ℕ} 0 1 = cc in omega arith)

pub never_printed_short : (bs : List ℕ) → (printed bs ≢ Printed.refused 11) × (printed bs ≢ Printed.refused 12)
never_printed_short bs = go (read_input bs) (input_roomy bs)
  where
    go : (d : Reading) → Roomy d → PrintsOther (printed_of d)
    go (Reading.accepted b) h =
        by_test PrintsOther (unreported (run_of b).phase) (λ _. other_number 15 (λ e. omega arith, λ e. omega arith)) (λ _. lines_other (report_now (run_of b)))
    go (Reading.refused c) h = other_number c.number h
    go (Reading.refused_at_entry c) h = other_number c.number h

-- ---- the C entry never returns 111 or 112, whatever its output slice

abbrev ReturnsOther : Returned → Type 0
ReturnsOther r = (r.number ≢ 111) × (r.number ≢ 112)

point_other : (room k : ℕ) (x : List Float) → k ≤ 3 → ReturnsOther (return_point room k x)
point_other room k x h =
    by_test ReturnsOther (ltb room (8 * length x)) (λ _. (λ e. omega arith, λ e. omega arith)) (λ _. (λ e. omega arith, λ e. omega arith))

fit_other : (room : ℕ) (m : Machine) (p : Phase) → ReturnsOther (return_fit room m (question_in m p))
fit_other room m (Phase.value w) = point_other room 1 m.trial.x (omega arith)
fit_other room m (Phase.gradient w) = point_other room 2 m.trial.x (omega arith)
fit_other room m (Phase.probe w i side) =
    point_other room 1 (probe_point (probes_at m.terms m.trial.x i) side i m.trial.x) (omega arith)
fit_other room m Phase.notice = point_other room 3 m.held.x (omega arith)
fit_other room m (Phase.ended t) =
    by_test ReturnsOther (eqb (status_of m.phase) 8) (λ _. (λ e. omega arith, λ e. omega arith)) (λ _. point_other room 0 m.held.x (omega arith))

pub never_returned_short : (room : ℕ) (bs : List ℕ) → ((returned room bs).number ≢ 111) × ((returned room bs).number ≢ 112)
never_returned_short room bs = go (read_input bs) (input_roomy bs)
  where
    go : (d : Reading) → Roomy d → ReturnsOther (return_of room d)
    go (Reading.accepted b) h = fit_other room (run_of b) (run_of b).phase
    go (Reading.refused c) h = (λ e. h.0 (omega arith), λ e. h.1 (omega arith))
    go (Reading.refused_at_entry c) h = (λ e. h.0 (omega arith), λ e. h.1 (omega arith))
