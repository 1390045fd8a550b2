-- No later call rests on scratch: words that agree with words that hold a fit hold it too, whatever their scratch is. Assumes nothing.
use Prim.Native.Nat.{ℕ, ◌≤◌, ◌<◌}
use mathlib.Core.Path.{◌≡◌, refl, sym, ap, ◌∙◌, subst}
use mathlib.Core.Bool.{true}
use mathlib.Core.List.{List}
use native.Mathlib.Omega.{arith}
use lib.ListN.{length, take}
use lib.Ieee.{Float}
use Rattle.definition.specs.Book.{Book}
use Rattle.definition.specs.Record.{Lengths}
use Rattle.definition.specs.History.{History}
use Rattle.area.specs.Area.{Vecs, view, vector_x0, vector_lower, vector_upper}
use Rattle.compact.proofs.Laws.{tab_same}
use Rattle.compact.specs.State.{pair_at, pairs_of}
use Rattle.compact.specs.declared.Shape.{Shape}
use Rattle.fit.specs.declared.Fit.{Fit}
use Rattle.fit.proofs.Laws.{same}
use Rattle.held.specs.Test.{is_ready, marked}
use Rattle.held.proofs.Test.{ready_facts, held_ready, is_held_lem}
use Rattle.held.proofs.Laws.{setup_same}
use Rattle.lbfgsb.specs.Words.{Words, words, Stands, Held}
use Rattle.lbfgsb.specs.Chain.{Agree, Alike}
use Rattle.lbfgsb.proofs.Areas.{Same, in_use}
use Rattle.lbfgsb.proofs.Alike.{alike}
use Rattle.lbfgsb.proofs.Trace.{Called}

pairs_in_use : (h : Shape) (v w : Vecs) → ((k : ℕ) → k < h.pairs → pair_at h v k ≡ pair_at h w k) → pairs_of h w ≡ pairs_of h v
unfolding pairs_of
pairs_in_use h v w k = tab_same h.pairs (pair_at h w) (pair_at h v) (λ j l. sym (k j l))

-- one state t with two areas and two logs
module _ (t : Fit) (a b : List Float) (l m : List ℕ) {k : Book} (h : Stands (words t a l) k)
    (area : Same t.shape a b) (mark : marked t.shape b ≡ true) (long : length a ≡ length b) (logged : length l ≡ length m)
    (log : take t.extra.words l ≡ take t.extra.words m) where
  stands_again : Stands (words t b m) k
  stands_again =
      let va = view a t.shape.n in
      let vb = view b t.shape.n in
      let facts = ready_facts t (length a) (held_ready t a h.test) in
      let used = in_use t.shape a b facts.positive facts.ready.sound area long in
      record {
        due = h.due;
        test = is_held_lem t b (subst (λ (k : ℕ). is_ready t k ≡ true) long (held_ready t a h.test)) mark;
        setup =
            setup_same t.options va vb (sym (used.low vector_x0 (omega arith))) (sym (used.low vector_lower (omega arith)))
            (sym (used.low vector_upper (omega arith)))
            ∙ h.setup;
        is = same t va vb (pairs_in_use t.shape va vb used.pairs) (λ q k. sym (used.low q k)) ∙ h.is;
        settled = h.settled;
        entries = h.entries;
        words = h.words;
        room = subst (λ (k : ℕ). t.extra.words ≤ k) logged h.room;
        log = sym log ∙ h.log;
      }

-- the state of two words that agree is one
agree_at : {w v : Words} (t : Fit) → w.state ≡ t → v.state ≡ t → Agree w v → Agree (words t w.area w.log) (words t v.area v.log)
agree_at {w} {v} t e f a =
    subst (λ (x : Fit). Agree (words x w.area w.log) (words t v.area v.log)) e
    (subst (λ (x : Fit). Agree w (words x v.area v.log)) f a)

scratch_stands : {w v : Words} {b : Book} → Stands w b → Agree w v → Stands v b
scratch_stands {w} {v} {b} h a =
    let t = w.state in
    let k = agree_at {w = w} {v = v} t refl (sym a.state) a in
    let area = ap (λ (x : Lengths). x.area) a.sized in
    let log = ap (λ (x : Lengths). x.log) a.sized in
    subst (λ (x : Fit). Stands (words x v.area v.log) b) a.state
    (stands_again t w.area v.area w.log v.log h k.area k.mark.1 area log k.log)

pub scratch_unread : {w v : Words} {b : Book} → Held w b → Agree w v → Held v b
scratch_unread h a = record { accepted = h.accepted; stands = scratch_stands h.stands a }

-- so they are answered alike for ever
pub scratch_alike : {w v : Words} {b : Book} → Held w b → Agree w v → Alike Called w v
scratch_alike {w} {v} {b} h a = alike w v (History.fit b) h (scratch_unread h a) tt a.sized
