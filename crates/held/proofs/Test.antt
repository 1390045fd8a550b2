-- Laws of the test for a held fit: what it gives, when it passes, and that the fit of a setup and replies that were due passes it. Assumes nothing.
use Prim.Native.Nat.{ℕ, zero, suc, ◌+◌, ◌≤◌, ◌<◌}
use native.Mathlib.Omega.{arith}
use native.Mathlib.Nat.{mul-le-mul}
use mathlib.Core.Path.{◌≡◌, refl, sym, ap, ◌∙◌, subst}
use mathlib.Core.Bool.{Bool, true, false, ◌&&◌}
use mathlib.Core.List.{List}
use lib.ListN.{length, replicate}
use lib.Ieee as Ieee
use lib.Ieee.{Float}
use borrow.Author.Tests.{ltb-true, leb-true, eqb-true, lt-ltb, le-leb, eq-eqb}
use Rattle.definition.specs.Number.{zero64, one64}
use Rattle.definition.specs.Vector.{word}
use Rattle.definition.specs.Problem.{Setup, Terms, dimension, maxcor_of, most_coordinates, most_pairs, area_words, area_needed}
use Rattle.definition.specs.Counters as C
use Rattle.definition.specs.Machine as M
use Rattle.definition.specs.Driver.{run}
use Rattle.definition.specs.Log.{log_words}
use Rattle.definition.specs.Replies.{Accepted, Due}
use Rattle.definition.proofs.Tests.{first_true, second_true}
use Rattle.definition.proofs.Accepted.{accepted_in_limits}
use Rattle.definition.proofs.Counts.{terms_stay, counts_few}
use Rattle.definition.proofs.Probed.{probe_in_range}
use Rattle.definition.proofs.Lengths.{log_length}
use Rattle.definition.proofs.Entries.{entries_most}
use Rattle.area.specs.Area.{view, vector_x0, vector_lower, vector_upper}
use Rattle.problem.specs.Setups.{places_in, setup_in}
use Rattle.counters.specs.Counts.{counters_of, most_counted}
use Rattle.compact.specs.State.{Sound}
use Rattle.fit.specs.State.{machine_of, phase_of, most_words}
use Rattle.fit.proofs.Laws.{model_same}
use Rattle.fit.specs.declared.Fit.{Fit}
use Rattle.fit.specs.declared.Phase.{Phase}
use Rattle.fit.specs.declared.Phase.TheVariants.{Value, Gradient, Probe, Notice, Ended}
use Rattle.compact.specs.declared.Shape.{Shape}
use Rattle.fit.specs.Ready.{Ready}
use Rattle.held.specs.Test.{mark_at, shape_held, phase_held, marked, is_ready, is_held, Marks}

-- ---- tests that are joined

pub and_i : (a b : Bool) → a ≡ true → b ≡ true → a && b ≡ true
and_i a b h k = rw h k

pub and_no : (a b : Bool) → b ≡ false → a && b ≡ false
and_no true b h = h
and_no false b h = refl

-- ---- what the test gives, and when it passes

pub record ShapeFacts (h : Shape) (size : ℕ) : Type 0 where
  pub positive : 0 < h.n
  pub n : h.n ≤ most_coordinates
  pub some : 0 < h.m
  pub few : h.m ≤ most_pairs
  pub most : h.pairs ≤ h.m
  pub ring : h.oldest < h.m
  pub area : area_words h.n h.m ≤ size

pub shape_facts : (h : Shape) (size : ℕ) → shape_held h size ≡ true → ShapeFacts h size
shape_facts h size k = search (first_true, second_true, ltb-true, leb-true) depth 9

facts_shape : (h : Shape) (size : ℕ) → ShapeFacts h size → shape_held h size ≡ true
facts_shape h size k = search (and_i, lt-ltb, le-leb) depth 9

pub shape_sound : {h : Shape} {size : ℕ} → ShapeFacts h size → Sound h size
shape_sound k = omega (arith, k)

-- what the test gives
pub record ReadyFacts (t : Fit) (size : ℕ) : Type 0 where
  pub ready : Ready t size
  pub within : M.InRange (phase_of t.phase) t.shape.n
  pub shape : shape_held t.shape size ≡ true
  pub positive : 0 < t.shape.n
  pub some : 0 < t.shape.m
  pub places : places_in t.options ≡ t.shape.m
  pub area : area_words t.shape.n t.shape.m ≤ size
  pub entries : t.extra.entries < most_words
  pub words : t.extra.words < most_words

held_within : (p : Phase) (n : ℕ) → phase_held p n ≡ true → M.InRange (phase_of p) n
held_within (Value w) n h = tt
held_within (Gradient w) n h = tt
held_within (Probe w i s) n h = ltb-true i n h
held_within Notice n h = tt
held_within (Ended t) n h = tt

within_held : (p : Phase) (n : ℕ) → M.InRange (phase_of p) n → phase_held p n ≡ true
within_held (Value w) n h = refl
within_held (Gradient w) n h = refl
within_held (Probe w i s) n h = lt-ltb i n h
within_held Notice n h = refl
within_held (Ended t) n h = refl

pub ready_facts : (t : Fit) (size : ℕ) → is_ready t size ≡ true → ReadyFacts t size
unfolding is_ready
ready_facts t size h =
    let shape : shape_held t.shape size ≡ true = search (first_true, h) in
    let k = shape_facts t.shape size shape in
    let sound = shape_sound k in
    search (k, held_within, first_true, second_true, ltb-true, eqb-true) depth 9

pub facts_ready : (t : Fit) (size : ℕ) → ReadyFacts t size → is_ready t size ≡ true
unfolding is_ready
facts_ready t size h =
    let phase = within_held t.phase t.shape.n h.within in
    search (and_i, lt-ltb, eq-eqb, h) depth 9

pub held_ready : (t : Fit) (a : List Float) → is_held t a ≡ true → is_ready t (length a) ≡ true
unfolding is_held
held_ready t a h = first_true (is_ready t (length a)) (marked t.shape a) h

pub held_marked : (t : Fit) (a : List Float) → is_held t a ≡ true → marked t.shape a ≡ true
unfolding is_held
held_marked t a h = second_true (is_ready t (length a)) (marked t.shape a) h

pub is_held_lem : (t : Fit) (a : List Float) → is_ready t (length a) ≡ true → marked t.shape a ≡ true → is_held t a ≡ true
unfolding is_held
is_held_lem t a h k = and_i (is_ready t (length a)) (marked t.shape a) h k

-- a shape that keeps n and m and stays sound passes again
pub shape_again : (h g : Shape) (size : ℕ) → shape_held h size ≡ true → g.n ≡ h.n → g.m ≡ h.m → Sound g size → shape_held g size ≡ true
shape_again h g size k n m s =
    let f = shape_facts h size k in
    let area : area_words g.n g.m ≤ size = rw (n, m) f.area in
    facts_shape g size (omega (arith, f, s))

-- the mark touches no vector of the machine
pub marked_machine : (t : Fit) (a b : List Float) → Sound t.shape (length a) → Marks t.shape a b → machine_of t b ≡ machine_of t a
marked_machine t a b s h = model_same t s (λ q l. h.kept q (omega arith)) (λ q k l. h.kept q (omega arith))

-- ---- the fit of a setup and replies that were due

-- no count is above the number of replies and one
counts_small :
    (t : Fit) (s : Setup) (rs : List M.Reply) → Due s rs → counters_of t.counters ≡ (run s rs).counters → length rs < most_words
    → (t.counters.nit < most_counted) × (t.counters.njev < most_counted)
counts_small t s rs d e h =
    let nit : t.counters.nit ≡ (run s rs).counters.nit = ap (λ (k : C.Counters). k.nit) e in
    let njev : t.counters.njev ≡ (run s rs).counters.njev = ap (λ (k : C.Counters). k.njev) e in
    omega (arith, counts_few s rs d)

-- with a log that the test lets pass it passes the test, whether or not the setup is accepted
pub few_ready :
    (t : Fit) (size : ℕ) (a : List Float) (s : Setup) (rs : List M.Reply) → Due s rs → machine_of t a ≡ run s rs → shape_held t.shape size ≡ true
    → places_in t.options ≡ t.shape.m → t.extra.entries ≡ length rs → t.extra.words ≡ length (log_words rs) → t.extra.words < most_words
    → is_ready t size ≡ true
few_ready t size a s rs d e h p n w few =
    let k = shape_facts t.shape size h in
    let entries : t.extra.entries < most_words = omega (arith, entries_most rs) in
    let small = counts_small t s rs d (ap (λ (m : M.Machine). m.counters) e) (omega arith) in
    facts_ready t size
    (record {
      ready = record { sound = shape_sound k; nit = small.0; njev = small.1; n = k.n };
      within = subst (λ (m : M.Machine). M.InRange m.phase m.terms.n) (sym e) (probe_in_range s rs d);
      shape = h;
      positive = k.positive;
      some = k.some;
      places = p;
      area = k.area;
      entries = entries;
      words = few;
    })

-- the log of an accepted setup is one
pub log_few : (s : Setup) (rs : List M.Reply) → Accepted s → Due s rs → length (log_words rs) < most_words
log_few s rs c d =
    let l = accepted_in_limits s c in
    let n : 3 + dimension s ≤ 3 + most_coordinates = omega (arith, l.coordinates.1) in
    omega (arith, log_length s rs c d, mul-le-mul n l.maxfev.1, l.maxiter.1)

pub run_ready : (t : Fit) (size : ℕ) (a : List Float) (s : Setup) (rs : List M.Reply) → Accepted s → Due s rs → machine_of t a ≡ run s rs
    → setup_in t.options (view a t.shape.n vector_x0) (view a t.shape.n vector_lower) (view a t.shape.n vector_upper) ≡ s
    → Sound t.shape size → area_needed s ≤ size → t.extra.entries ≡ length rs → t.extra.words ≡ length (log_words rs) → is_ready t size ≡ true
run_ready t size a s rs c d e o h z n w =
    let l = accepted_in_limits s c in
    let terms = ap (λ (m : M.Machine). m.terms) e ∙ terms_stay s rs d in
    let coordinates : t.shape.n ≡ dimension s = ap (λ (x : Terms). x.n) terms in
    let places : t.shape.m ≡ maxcor_of s = ap (λ (x : Terms). x.maxcor) terms in
    let area : area_words t.shape.n t.shape.m ≤ size = rw (coordinates, places) z in
    let shape : ShapeFacts t.shape size = omega (arith, h, l) in
    few_ready t size a s rs d e (facts_shape t.shape size shape) (ap maxcor_of o ∙ sym places) n w (omega (arith, log_few s rs c d))

-- ---- an area of zeros

zero_unmarked : (k i : ℕ) → Ieee.eq (word (replicate k zero64) i) one64 ≡ false
unfolding Ieee.eq
zero_unmarked zero i = refl
zero_unmarked (suc k) zero = refl
zero_unmarked (suc k) (suc i) = zero_unmarked k i

-- an area of zeros holds no fit
pub zeroed_unheld : (t : Fit) (k : ℕ) → is_held t (replicate k zero64) ≡ false
unfolding is_held
zeroed_unheld t k = and_no (is_ready t (length (replicate k zero64))) (marked t.shape (replicate k zero64)) (zero_unmarked k (mark_at t.shape))
