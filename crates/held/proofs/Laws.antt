-- Laws of what words hold: a fit that a setup and replies reach, and marked. Assumes nothing.
use Prim.Native.Nat.{ℕ, ◌≤◌}
use native.Mathlib.Omega.{arith}
use mathlib.Core.Path.{◌≡◌, ap, ◌∙◌}
use mathlib.Core.Bool.{true, false}
use mathlib.Core.List.{List}
use lib.ListN.{length, take}
use lib.Ieee.{Float}
use Rattle.definition.specs.Problem.{Setup, Terms, area_words, area_needed, terms_of}
use Rattle.definition.specs.Machine as M
use Rattle.definition.specs.Machine.{Machine}
use Rattle.definition.specs.Driver.{run}
use Rattle.definition.specs.Log.{log_words}
use Rattle.definition.specs.Book.{Book, opened_book, run_of, log_of}
use Rattle.definition.specs.Replies.{Accepted, Due}
use Rattle.definition.proofs.Counts.{terms_stay}
use Rattle.area.specs.Area.{Vecs, view, Saved, vector_x0, vector_lower, vector_upper}
use Rattle.compact.specs.declared.Shape.{Shape}
use Rattle.compact.specs.State.{Sound}
use Rattle.search.specs.State.{Settled}
use Rattle.problem.specs.declared.Options.{Options}
use Rattle.fit.specs.State.{machine_of}
use Rattle.fit.specs.declared.Fit.{Fit}
use Rattle.opening.specs.Opened.{setup_at, Opened}
use Rattle.held.specs.Test.{marked, is_ready, is_held, Marks}
use Rattle.held.proofs.Test.{ready_facts, held_ready, is_held_lem, marked_machine, run_ready}
use Rattle.held.specs.Words.{words, Held}

-- ---- the setup that state and area hold

-- options and the three vectors make it
pub setup_same : (o : Options) (v w : Vecs) → w vector_x0 ≡ v vector_x0 → w vector_lower ≡ v vector_lower → w vector_upper ≡ v vector_upper
    → setup_at o w ≡ setup_at o v
setup_same o v w x l u = rw (x, l, u)

-- the mark touches none of it
pub marked_setup : (o : Options) (t : Fit) (a b : List Float) → Marks t.shape a b → setup_at o (view b t.shape.n) ≡ setup_at o (view a t.shape.n)
marked_setup o t a b h =
    setup_same o (view a t.shape.n) (view b t.shape.n) (h.kept vector_x0 (omega arith)) (h.kept vector_lower (omega arith)) (h.kept vector_upper (omega arith))

-- nor the start and the free vectors
pub marks_saved : {h : Shape} {a b : List Float} → Marks h a b → Saved (view a h.n) (view b h.n)
marks_saved k = record { x0 = k.kept vector_x0 (omega arith); free = λ q l m. k.kept q (omega arith) }

-- ---- a fit that replies reach

-- t with the area a is the fit of the book k
pub record Reached (t : Fit) (a : List Float) (k : Book) : Type 0 where
  pub accepted : Accepted k.setup
  pub due : Due k.setup k.replies
  pub setup : setup_at t.options (view a t.shape.n) ≡ k.setup
  pub is : machine_of t a ≡ run_of k
  pub sound : Sound t.shape (length a)
  pub area : area_needed k.setup ≤ length a
  pub settled : Settled t.search
  pub entries : t.extra.entries ≡ length k.replies
  pub words : t.extra.words ≡ length (log_of k)

-- it passes the test ahead of the mark
pub reached_ready : {t : Fit} {a : List Float} {k : Book} → Reached t a k → is_ready t (length a) ≡ true
reached_ready {t} {a} {k} h =
    run_ready t (length a) a k.setup k.replies h.accepted h.due h.is h.setup h.sound h.area h.entries h.words

-- the mark keeps it
pub reached_marked : {t : Fit} {a b : List Float} {k : Book} → Reached t a k → Marks t.shape a b → Reached t b k
reached_marked {t} {a} {b} h m = record {
  accepted = h.accepted;
  due = h.due;
  setup = marked_setup t.options t a b m ∙ h.setup;
  is = marked_machine t a b h.sound m ∙ h.is;
  sound = rw m.size h.sound;
  area = rw m.size h.area;
  settled = h.settled;
  entries = h.entries;
  words = h.words;
}

-- marked, and with its words in the log, it is held
pub reached_held : {t : Fit} {a : List Float} {l : List ℕ} {k : Book}
    → Reached t a k → marked t.shape a ≡ true → t.extra.words ≤ length l → take t.extra.words l ≡ log_of k → Held (words t a l) k
reached_held {t} {a} h m r e = record {
  accepted = h.accepted;
  stands = record {
    due = h.due;
    test = is_held_lem t a (reached_ready h) m;
    setup = h.setup;
    is = h.is;
    settled = h.settled;
    entries = h.entries;
    words = h.words;
    room = r;
    log = e;
  };
}

-- the terms after any replies are the setup's
terms_of_lem : (t : Fit) (a : List Float) (s : Setup) (rs : List M.Reply) → Due s rs → machine_of t a ≡ run s rs → (machine_of t a).terms ≡ terms_of s
terms_of_lem t a s rs d e = ap (λ (m : Machine). m.terms) e ∙ terms_stay s rs d

needed_is : (t : Fit) (a : List Float) (s : Setup) (rs : List M.Reply) → Due s rs → machine_of t a ≡ run s rs
    → area_words t.shape.n t.shape.m ≡ area_needed s
needed_is t a s rs d e = ap (λ (k : Terms). area_words k.n k.maxcor) (terms_of_lem t a s rs d e)

-- what is held was reached
pub held_reached : {t : Fit} {a : List Float} {l : List ℕ} {k : Book} → Held (words t a l) k → Reached t a k
held_reached {t} {a} {k = k} h =
    let m = h.stands in
    let f = ready_facts t (length a) (held_ready t a m.test) in
    record {
      accepted = h.accepted;
      due = m.due;
      setup = m.setup;
      is = m.is;
      sound = f.ready.sound;
      area = rw (← needed_is t a k.setup k.replies m.due m.is) f.area;
      settled = m.settled;
      entries = m.entries;
      words = m.words;
    }

-- a setup just opened is reached by no replies
pub opened_reached : {t : Fit} {a b : List Float} {o : Options} {n : ℕ} {s : Setup}
    → Accepted s → area_needed s ≤ length b → Opened o n s a t b → Reached t b (opened_book s)
unfolding run log_words
opened_reached c z h = record {
  accepted = c;
  due = tt;
  setup = rw (h.options, h.n) h.setup;
  is = h.is;
  sound = h.sound;
  area = z;
  settled = h.settled;
  entries = h.entries;
  words = h.words;
}

-- ---- nothing held

pub no_coordinates : (t : Fit) (a : List Float) → t.shape.n ≡ 0 → is_held t a ≡ false
unfolding is_held is_ready
no_coordinates t a e = rw e
