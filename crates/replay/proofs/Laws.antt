-- Laws of a replay: whether an entry is admitted, what taking it leaves, and what holds after each. Assumes nothing.
use mathlib.Core.Path.{◌≡◌, refl, sym, ap, ap₂, ◌∙◌}
use mathlib.Core.Bool.{Bool, true, false, ◌&&◌, true≢false}
use mathlib.Core.Logic.{◌⊎◌, inl, inr}
use mathlib.Core.List.{List, [], ◌∷◌, ◌++◌, append_assoc}
use Rattle.std.specs.Prelude.{Result, Ok, Err}
use Rattle.std.specs.Result.{is_ok}
use Rattle.std.proofs.lemmas.Option.{none-some}
use Prim.Native.Nat.{ℕ, suc, ◌+◌, ◌≤◌, ◌<◌}
use native.Mathlib.Omega.{arith}
use borrow.Author.Tests.{leb-true, leb-false}
use lib.Dec.{leb}
use lib.ListN.{length, drop, replicate, length-replicate}
use lib.Ieee.{Float}
use Rattle.definition.specs.Problem as P
use Rattle.definition.specs.Machine as M
use Rattle.definition.specs.Driver as D
use Rattle.definition.specs.Driver.{run}
use Rattle.definition.specs.Log.{Entries, entry_words, log_words}
use Rattle.definition.specs.Replies.{Due}
use Rattle.definition.proofs.Accepted.{due_taken}
use Rattle.definition.proofs.Entries.{log_more, words_some}
use Rattle.area.specs.Area.{view, Saved}
use Rattle.area.proofs.Laws.{saved_refl, saved_trans}
use Rattle.compact.specs.State.{Sound}
use Rattle.problem.specs.Setups.{places_in, check_of}
use Rattle.search.specs.State.{Settled}
use Rattle.fit.specs.State.{machine_of, phase_of, most_words, more_kept, with_extra, Steps}
use Rattle.fit.specs.declared.Extra.{Extra}
use Rattle.fit.specs.declared.Fit.{Fit}
use Rattle.held.specs.Test.{shape_held, is_ready}
use Rattle.driver.specs.declared.Reply.{Reply}
use Rattle.held.proofs.Test.{ready_facts, shape_again, few_ready, log_few}
use Rattle.driver.proofs.Steps.{suits_any, due_by_kind, DueSaid}
use Rattle.problem.specs.declared.Refusal.{Refusal}
use Rattle.problem.specs.declared.Refusal.TheVariants.{LogShort, Malformed}
use Rattle.replay.specs.Replays.{one_more, after_entries, first_entries, Replayable, ReplayedTo, Replays}
use Rattle.replay.specs.Taken.{replied, gradient_at, Reads, is_due, admission, Took, RefusedBy, Run}
use Rattle.replay.proofs.Entries.{reads_count, due_checked, next_undue, next_short, next_going}
use Rattle.driver.proofs.Answers.{terms_stay}

-- ---- admission

-- what `check_due` says, with n words for a gradient
module _ (t : Fit) (r : Reply) (c : Result Unit Refusal) (said : DueSaid t r c) where
  abbrev any : List ℕ
  any = replicate t.shape.n 0

  said_any : check_of c ≡ M.check_due (machine_of t []) (replied r any)
  said_any = said (view [] t.shape.n) any (length-replicate t.shape.n 0)

  kind_any : M.takes (machine_of t []) (replied r any) ≡ is_due t r
  kind_any = suits_any (M.kind_of (phase_of t.phase)) r any []

  due_is : {u : Unit} → c ≡ Ok u → is_due t r ≡ true
  due_is e = sym kind_any ∙ due_taken (machine_of t []) (replied r any) (sym said_any ∙ ap check_of e)

  undue_is : {q : Refusal} → c ≡ Err q → is_due t r ≡ false
  undue_is e = go (is_due t r) refl
    where
      go : (b : Bool) → is_due t r ≡ b → b ≡ false
      go true h =
          let passed = said_any ∙ due_by_kind (machine_of t []) r any (length-replicate t.shape.n 0) (kind_any ∙ h) in
          absurd (none-some _ (sym passed ∙ ap check_of e))
      go false h = refl

  pub due_ok : is_ok c ≡ is_due t r
  due_ok = elim c as (λ d. c ≡ d → is_ok d ≡ is_due t r) [ Ok u ↦ λ e. sym (due_is e) | Err q ↦ λ e. sym (undue_is e) ] refl

admitted_as : (ready due fits : Bool) {u : Unit} → Ok u ≡ admission (ready && due) fits → (ready ≡ true) × (due ≡ true) × (fits ≡ true)
admitted_as true true true e = (refl, refl, refl)
admitted_as true true false e = cc
admitted_as true false fits e = cc
admitted_as false due fits e = cc

-- an entry that is admitted: the fit passes the test, the reply is due, and there is room
pub record Admitted (t : Fit) (size : ℕ) (r : Reply) (l room : ℕ) : Type 0 where
  pub ready : is_ready t size ≡ true
  pub due : is_due t r ≡ true
  pub fits : t.extra.words + l ≤ room

module _ (t : Fit) (a : List Float) (ws : List ℕ) (room : ℕ) (here : t.extra.words < length ws) where
  module _ (r : Reply) (l : ℕ) (h : Reads t.shape.n ws t.extra.words r l) where
    abbrev reply : M.Reply
    reply = replied r (gradient_at t.shape.n ws t.extra.words)

    takes_due : M.takes (machine_of t a) reply ≡ is_due t r
    takes_due = suits_any (M.kind_of (phase_of t.phase)) r (gradient_at t.shape.n ws t.extra.words) []

    pub admitted_is : {u : Unit} → Ok u ≡ admission (is_ready t (length a) && is_due t r) (leb (t.extra.words + l) room) → Admitted t (length a) r l room
    admitted_is e =
        let k = admitted_as (is_ready t (length a)) (is_due t r) (leb (t.extra.words + l) room) e in
        record { ready = k.0; due = k.1; fits = leb-true (t.extra.words + l) room k.2 }

    -- an entry that is not due, or has no room
    pub refused_is : (c : Refusal) → Err c ≡ admission (is_ready t (length a) && is_due t r) (leb (t.extra.words + l) room) → RefusedBy t a ws room c
    refused_is c = go (is_ready t (length a)) (is_due t r) (leb (t.extra.words + l) room) refl refl refl
      where
        go : (ready due fits : Bool) → is_ready t (length a) ≡ ready → is_due t r ≡ due → leb (t.extra.words + l) room ≡ fits
            → Err c ≡ admission (ready && due) fits → RefusedBy t a ws room c
        go true true true f g k e = cc
        go true true false f g k e =
            let short = leb-false (t.extra.words + l) room k in
            let which : c ≡ LogShort = cc in
            rw which
            (record {
              code = inr (refl, omega (arith, short, h.within));
              next = λ ready rs w. next_short room ws rs (machine_of t a) t.extra.words r l h here (takes_due ∙ g) w short;
            })
        go true false fits f g k e =
            let which : c ≡ Malformed = cc in
            rw which (record { code = inl refl; next = λ ready rs w. next_undue room ws rs (machine_of t a) t.extra.words r l h here (takes_due ∙ g) })
        go false due fits f g k e =
            let which : c ≡ Malformed = cc in
            rw which (record { code = inl refl; next = λ ready rs w. absurd (true≢false (sym ready ∙ f)) })

    -- an entry that is taken, and counted
    pub took_by : {f g : Fit} {b : List Float} → Sound t.shape (length a) → shape_held t.shape (length a) ≡ true
        → M.InRange (phase_of t.phase) t.shape.n
        → is_due t r ≡ true → t.extra.words + l ≤ room → length b ≡ length a → Steps (λ (m : M.Machine). D.answer m reply) t a f b
        → g ≡ with_extra (more_kept f.extra l) f → Took t a ws room g b
    took_by {f} {g} {b} all held within due fits size s e =
        let sound : Sound f.shape (length b) = rw size (s.sound (length a) all) in
        let takes = takes_due ∙ due in
        let on : f.extra.words + l ≡ t.extra.words + l = ap (λ (x : Extra). x.words + l) s.kept.extra in
        rw e
        (record {
          reply = reply;
          due = due_checked (machine_of t a) r h takes;
          is = s.is;
          spelled = ap (λ (w : ℕ). entry_words reply ++ drop w ws) on ∙ h.spelled;
          next =
              λ rs w.
              next_going room ws rs (machine_of t a) t.extra.words r l h here takes w fits
              ∙ ap₂ (λ (i : ℕ) (m : M.Machine). Entries.going (drop i ws) (reply ∷ rs) m) (sym on) (sym s.is);
          entries = ap (λ (x : Extra). x.entries + 1) s.kept.extra;
          words = on ∙ ap (λ (i : ℕ). t.extra.words + i) (sym (reads_count r h));
          last = omega (arith, on, h.within);
          within = omega (arith, on, fits);
          options = s.kept.options;
          n = s.n;
          m = s.m;
          shape = shape_again t.shape f.shape (length b) (rw size held) s.n s.m sound;
          sound = sound;
          settled = s.kept.settled;
          saved = s.saved;
          terms = ap (λ (m : M.Machine). m.terms) s.is ∙ terms_stay t (view a t.shape.n) reply within takes;
        })

    pub took : {f g : Fit} {b : List Float} → Admitted t (length a) r l room → length b ≡ length a → Steps (λ (m : M.Machine). D.answer m reply) t a f b
        → g ≡ with_extra (more_kept f.extra l) f → Took t a ws room g b
    took k size s e =
        let ready = ready_facts t (length a) k.ready in
        took_by ready.ready.sound ready.shape ready.within k.due k.fits size s e

pub took_more : {t f : Fit} {a b : List Float} {ws : List ℕ} {room : ℕ} → Took t a ws room f b → t.extra.words < f.extra.words
took_more h = omega (arith, h.words, words_some h.reply)

-- ---- entry by entry

-- f with the area b is reached from t with the area a
pub record Reached (t : Fit) (a : List Float) (ws : List ℕ) (limit room : ℕ) (f : Fit) (b : List Float) : Type 0 where
  pub size : length b ≡ length a
  pub small : t.shape.n ≤ P.most_coordinates
  pub options : f.options ≡ t.options
  pub n : f.shape.n ≡ t.shape.n
  pub m : f.shape.m ≡ t.shape.m
  pub shape : shape_held f.shape (length b) ≡ true
  pub settled : Settled t.search → Settled f.search
  pub saved : Saved (view a t.shape.n) (view b t.shape.n)
  pub terms : (machine_of f b).terms ≡ (machine_of t a).terms
  pub few : f.extra.entries ≤ limit
  pub words : f.extra.words ≤ length ws
  pub within : f.extra.words ≤ room
  pub is : (s : P.Setup) → Replayable s ws → machine_of t a ≡ D.begin s → ReplayedTo s ws room f b

pub reached_first : (t : Fit) (a : List Float) (ws : List ℕ) (limit room : ℕ) → is_ready t (length a) ≡ true → t.extra.entries ≡ 0 → t.extra.words ≡ 0
    → Reached t a ws limit room t a
unfolding after_entries log_words run
reached_first t a ws limit room h e w =
    let ready = ready_facts t (length a) h in
    let whole : drop t.extra.words ws ≡ ws = ap (λ (i : ℕ). drop i ws) w in
    record {
      size = refl;
      small = ready.ready.n;
      options = refl;
      n = refl;
      m = refl;
      shape = ready.shape;
      settled = λ s. s;
      saved = saved_refl;
      terms = refl;
      few = omega arith;
      words = omega arith;
      within = omega arith;
      is = λ s c k. record {
        replies = [];
        after =
            ap (λ (i : ℕ). after_entries i room (first_entries s ws)) e
            ∙ ap₂ (λ (l : List ℕ) (m : M.Machine). Entries.going l [] m) (sym whole) (sym k);
        due = tt;
        is = k;
        spelled = whole;
        entries = e;
        words = w;
        ready = h;
      };
    }

-- the words replayed are no more than the test lets pass
few_words : (s : P.Setup) (ws : List ℕ) (rs : List M.Reply) (k : ℕ) → Replayable s ws → Due s rs
    → k ≡ length (log_words rs) → k ≤ length ws → k < most_words
few_words s ws rs k (inl c) d e h = omega (arith, log_few s rs c d)
few_words s ws rs k (inr l) d e h = omega arith

-- one entry more
replayed_more : {s : P.Setup} {ws : List ℕ} {room : ℕ} {f g : Fit} {b d : List Float}
    → Replayable s ws → ReplayedTo s ws room f b → Took f b ws room g d → ReplayedTo s ws room g d
unfolding after_entries log_words run
replayed_more {s} {ws} {room} {f} {g} {b} {d} c h k =
    let rs = k.reply ∷ h.replies in
    let more : g.extra.entries ≡ suc f.extra.entries = k.entries ∙ omega arith in
    let due : Due s rs = (ap (λ (m : M.Machine). M.check_due m k.reply) (sym h.is) ∙ k.due, h.due) in
    let is : machine_of g d ≡ run s rs = k.is ∙ ap (λ (m : M.Machine). D.answer m k.reply) h.is in
    let entries : g.extra.entries ≡ length rs = more ∙ ap suc h.entries in
    let words : g.extra.words ≡ length (log_words rs) = omega (arith, k.words, h.words, log_more k.reply h.replies) in
    let places : places_in g.options ≡ g.shape.m = ap places_in k.options ∙ (ready_facts f (length b) h.ready).places ∙ sym k.m in
    record {
      replies = rs;
      after =
          ap (λ (i : ℕ). after_entries i room (first_entries s ws)) more
          ∙ ap (one_more room) h.after
          ∙ k.next h.replies h.words;
      due = due;
      is = is;
      spelled =
          append_assoc (log_words h.replies) (entry_words k.reply) (drop g.extra.words ws)
          ∙ ap (λ (l : List ℕ). log_words h.replies ++ l) k.spelled
          ∙ h.spelled;
      entries = entries;
      words = words;
      ready = few_ready g (length d) d s rs due is k.shape places entries words (few_words s ws rs g.extra.words c due words k.last);
    }

pub reached_more : {t f g : Fit} {a b d : List Float} {ws : List ℕ} {limit room : ℕ}
    → Reached t a ws limit room f b → f.extra.entries < limit → length d ≡ length b → Took f b ws room g d → Reached t a ws limit room g d
reached_more {t} {f} {g} {a} {b} {d} h l size k = record {
  size = size ∙ h.size;
  small = h.small;
  options = k.options ∙ h.options;
  n = k.n ∙ h.n;
  m = k.m ∙ h.m;
  shape = k.shape;
  settled = λ s. k.settled (h.settled s);
  saved = saved_trans h.saved (rw h.n at k.saved);
  terms = k.terms ∙ h.terms;
  few = omega (arith, k.entries);
  words = k.last;
  within = k.within;
  is = λ s c e. replayed_more c (h.is s c e) k;
}

pub reached_run : {ws : List ℕ} {limit room : ℕ} {t f : Fit} {a b : List Float} {g : Fit} {d : List Float}
    → Reached t a ws limit room f b → Run ws limit room f b g d → Reached t a ws limit room g d
reached_run h Run.begun = h
reached_run h (Run.taken f b g d r l size k) = reached_more (reached_run h r) l size k

-- ---- the end

pub reached_done : {t f : Fit} {a b : List Float} {ws : List ℕ} {limit room : ℕ} → Reached t a ws limit room f b
    → (f.extra.words ≡ length ws) ⊎ (f.extra.entries ≡ limit)
    → Replays t a ws limit room (Ok f) b
reached_done h stopped = record {
  size = h.size;
  kept = record {
    options = h.options;
    n = h.n;
    m = h.m;
    shape = h.shape;
    settled = h.settled;
    saved = h.saved;
    terms = h.terms;
    few = h.few;
    words = h.words;
    within = h.within;
    stopped = stopped;
  };
  is = h.is;
}

pub reached_refused : {t f : Fit} {a b d : List Float} {ws : List ℕ} {limit room : ℕ} (c : Refusal)
    → Reached t a ws limit room f b → f.extra.entries < limit → length d ≡ length b → RefusedBy f b ws room c → Replays t a ws limit room (Err c) d
unfolding after_entries
reached_refused {t} {f} {a} {b} {d} {ws} {limit} {room} c h l size k = record {
  size = size ∙ h.size;
  kept = k.code;
  is = λ s c e. let g = h.is s c e in record {
    number = suc f.extra.entries;
    most = l;
    is = ap (one_more room) g.after ∙ k.next g.ready g.replies g.words;
  };
}
