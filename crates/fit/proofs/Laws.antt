-- Laws of `specs/State.antt`: how `Turns` and `Steps` join, and what leaves the machine as it was. Assumes nothing.
use mathlib.Core.Path.{◌≡◌, refl, ap, ◌∙◌}
use mathlib.Core.List.{List}
use Rattle.std.specs.Prelude.{None, Some}
use Prim.Native.Nat.{ℕ, ◌+◌, ◌*◌, ◌≤◌, ◌<◌}
use native.Mathlib.Omega.{arith}
use lib.Ieee.{Float}
use Rattle.definition.specs.Compact.{Compact, Pair, wrap}
use Rattle.definition.specs.Counters as C
use Rattle.definition.specs.Machine as M
use Rattle.definition.specs.Driver.{ask_value}
use Rattle.area.specs.Area.{Vecs, view, upd, first_pair, first_column, FreeKept}
use Rattle.area.specs.Area.{Saved, vector_x, vector_g, vector_lower, vector_upper, vector_x0, vector_trial, vector_trial_gradient, vector_direction}
use Rattle.area.proofs.Laws.{saved_refl, saved_trans}
use Rattle.counters.specs.Counts.{value_charge}
use Rattle.counters.proofs.Laws.{charge_made, charge_spent}
use Rattle.compact.specs.declared.Shape.{Shape}
use Rattle.compact.specs.State.{pair_slot, pair_at, pairs_of, compact_of, Sound}
use Rattle.compact.proofs.Laws.{tab_same, place_below, vector_room}
use Rattle.compact.proofs.Models as models
use Rattle.fit.specs.declared.Fit.{Fit}
use Rattle.fit.specs.declared.Phase.{Phase}
use Rattle.fit.specs.State.{machine, machine_with, machine_of, phase_of, with_phase, Kept, Turns, Steps}

-- ---- what is not the machine's

pub kept_refl : {t : Fit} → Kept t t
kept_refl = record { options = refl; extra = refl; settled = λ s. s }

pub kept_trans : {t s r : Fit} → Kept t s → Kept s r → Kept t r
kept_trans h k = record {
  options = k.options ∙ h.options;
  extra = k.extra ∙ h.extra;
  settled = λ s. k.settled (h.settled s);
}

-- ---- turns, which leave the area alone

-- another fit that is equal
pub same_fit : {F : M.Machine → M.Machine} {t r s : Fit} → r ≡ s → Turns F t s → Turns F t r
same_fit e h = rw e h

-- G does to this machine what F does
pub turns_as : {F G : M.Machine → M.Machine} {t r : Fit} → Turns F t r → ((v : Vecs) → F (machine t v) ≡ G (machine t v)) → Turns G t r
turns_as h e = record { shape = h.shape; kept = h.kept; is = λ v. h.is v ∙ e v }

-- one after the other
pub turns_then : {F G : M.Machine → M.Machine} {t s r : Fit} → Turns F t s → Turns G s r → Turns (λ (m : M.Machine). G (F m)) t r
turns_then {G = G} h k = record {
  shape = k.shape ∙ h.shape;
  kept = kept_trans h.kept k.kept;
  is = λ v. k.is v ∙ ap G (h.is v);
}

pub phased : {p : Phase} {t r : Fit} → r ≡ with_phase p t → Turns (M.in_phase (phase_of p)) t r
phased e = same_fit e (record { shape = refl; kept = record { options = refl; extra = refl; settled = λ s. s }; is = λ v. refl })

-- ---- vectors that give the same machine

-- one of the first sixteen vectors replaced
pub pairs_kept : (h : Shape) (v : Vecs) (p : ℕ) (w : List Float) → p < first_pair → pairs_of h (upd v p w) ≡ pairs_of h v
pairs_kept h v p w l = models.pairs_kept h v (upd v p w) (models.high_upd v p w l)

pub put : (t : Fit) (v : Vecs) (p : ℕ) (w : List Float) → p < first_pair → machine t (upd v p w) ≡ machine_with (pairs_of t.shape v) t (upd v p w)
put t v p w l = ap (λ (ps : List Pair). machine_with ps t (upd v p w)) (pairs_kept t.shape v p w l)

-- vectors that agree in the first eight
pub low_same : (ps : List Pair) (t : Fit) (v w : Vecs) → ((q : ℕ) → q < 8 → w q ≡ v q) → machine_with ps t w ≡ machine_with ps t v
low_same ps t v w h =
    let x = h vector_x (omega arith) in
    let g = h vector_g (omega arith) in
    let l = h vector_lower (omega arith) in
    let u = h vector_upper (omega arith) in
    let a = h vector_trial (omega arith) in
    let b = h vector_trial_gradient (omega arith) in
    let d = h vector_direction (omega arith) in
    rw (x, g, l, u, a, b, d)

-- and in the pairs
pub same : (t : Fit) (v w : Vecs) → pairs_of t.shape w ≡ pairs_of t.shape v → ((q : ℕ) → q < 8 → w q ≡ v q) → machine t w ≡ machine t v
same t v w e h = ap (λ (ps : List Pair). machine_with ps t w) e ∙ low_same (pairs_of t.shape v) t v w h

-- the pairs stand below the columns
pub pairs_same : (h : Shape) {size : ℕ} (v w : Vecs) → Sound h size → ((q : ℕ) → first_pair ≤ q → q < first_column h.m → w q ≡ v q)
    → pairs_of h w ≡ pairs_of h v
unfolding pairs_of
pairs_same h v w r k =
    tab_same h.pairs (pair_at h w) (pair_at h v)
    (λ j l.
    let b : wrap h.m (h.oldest + j) < h.m = place_below j (wrap h.m (h.oldest + j)) r (omega arith) refl in
    λ i. record { s = k (pair_slot h j) (omega arith) (omega arith) i; y = k (pair_slot h j + 1) (omega arith) (omega arith) i })

-- only scratch and the columns are written
pub model_same : (t : Fit) {size : ℕ} {v w : Vecs} → Sound t.shape size → ((q : ℕ) → q < 8 → w q ≡ v q)
    → ((q : ℕ) → first_pair ≤ q → q < first_column t.shape.m → w q ≡ v q) → machine t w ≡ machine t v
model_same t {v = v} {w = w} r l h = same t v w (pairs_same t.shape v w r h) l

-- ---- steps

-- the vectors become w, then the fit s is taken through F
pub stepped : {F G : M.Machine → M.Machine} {w : Vecs} {t s r : Fit} {a b : List Float}
    → Turns F s r → s.shape ≡ t.shape → Kept t s → view b t.shape.n ≡ w → Saved (view a t.shape.n) w
    → F (machine s w) ≡ G (machine_of t a) → Steps G t a r b
stepped {F} {G} {w} {t} {s} {r} {a} {b} h q k e x g =
    let d : r.shape ≡ t.shape = h.shape ∙ q in
    record {
      n = ap (λ (z : Shape). z.n) d;
      m = ap (λ (z : Shape). z.m) d;
      sound = λ size l. rw d l;
      kept = kept_trans k h.kept;
      saved = rw e x;
      is =
          ap (λ (z : Shape). machine r (view b z.n)) d
          ∙ h.is (view b t.shape.n)
          ∙ ap (λ (v : Vecs). F (machine s v)) e
          ∙ g;
    }

-- the vectors become w, and the fit r
pub moved : {G : M.Machine → M.Machine} {w : Vecs} {t r : Fit} {a b : List Float}
    → r.shape ≡ t.shape → Kept t r → view b t.shape.n ≡ w → Saved (view a t.shape.n) w → machine r w ≡ G (machine_of t a) → Steps G t a r b
moved {r = r} q k e x g = stepped {F = λ (m : M.Machine). m} {s = r} (record { shape = refl; kept = kept_refl; is = λ v. refl }) q k e x g

-- the area stays
pub still : {F G : M.Machine → M.Machine} {t r : Fit} {a : List Float} → Turns F t r → F (machine_of t a) ≡ G (machine_of t a) → Steps G t a r a
still h e = stepped h refl kept_refl refl saved_refl e

-- G does to this machine what F does
pub steps_as : {F G : M.Machine → M.Machine} {t r : Fit} {a b : List Float} → Steps F t a r b → F (machine_of t a) ≡ G (machine_of t a) → Steps G t a r b
steps_as h e = record { n = h.n; m = h.m; sound = h.sound; kept = h.kept; saved = h.saved; is = h.is ∙ e }

-- one after the other
pub steps_then : {F G : M.Machine → M.Machine} {t s r : Fit} {a b d : List Float} → Steps F t a s b → Steps G s b r d
    → Steps (λ (m : M.Machine). G (F m)) t a r d
steps_then {G = G} h k = record {
  n = k.n ∙ h.n;
  m = k.m ∙ h.m;
  sound = λ size l. k.sound size (h.sound size l);
  kept = kept_trans h.kept k.kept;
  saved = saved_trans h.saved (rw h.n at k.saved);
  is = k.is ∙ ap G h.is;
}

-- the same, seen from the fit or the area before
pub steps_from : {F G : M.Machine → M.Machine} {s t r : Fit} {a b : List Float}
    → Steps F s a r b → s.shape ≡ t.shape → Kept t s → F (machine_of s a) ≡ G (machine_of t a) → Steps G t a r b
steps_from h q k e = record {
  n = h.n ∙ ap (λ (z : Shape). z.n) q;
  m = h.m ∙ ap (λ (z : Shape). z.m) q;
  sound = λ size l. h.sound size (rw q l);
  kept = kept_trans k h.kept;
  saved = rw q at h.saved;
  is = h.is ∙ e;
}

pub steps_at_lem : {F G : M.Machine → M.Machine} {t r : Fit} {a b d : List Float} {w : Vecs}
    → Steps F t b r d → view b t.shape.n ≡ w → Saved (view a t.shape.n) w → F (machine t w) ≡ G (machine_of t a) → Steps G t a r d
steps_at_lem {F = F} {t = t} h e x g = record {
  n = h.n;
  m = h.m;
  sound = h.sound;
  kept = h.kept;
  saved = saved_trans x (rw e at h.saved);
  is = h.is ∙ ap (λ (v : Vecs). F (machine t v)) e ∙ g;
}

-- the machine stays, where only scratch and the columns are written
pub model_stays : {t : Fit} {size : ℕ} {a b : List Float} → Sound t.shape size
    → ((q : ℕ) → q < 8 → view b t.shape.n q ≡ view a t.shape.n q) → FreeKept (view a t.shape.n) (view b t.shape.n)
    → ((q : ℕ) → first_pair ≤ q → q < first_column t.shape.m → view b t.shape.n q ≡ view a t.shape.n q) → Steps (λ (m : M.Machine). m) t a t b
model_stays {t} r l f h = moved refl kept_refl refl (record { x0 = l vector_x0 (omega arith); free = f }) (model_same t r l h)

-- ---- another compact form

-- t, with another ring and theta
abbrev pub with_ring : Shape → Float → Fit → Fit
with_ring h theta t = record t { shape = h; theta = theta }

pub compacted : {t : Fit} {h : Shape} {theta : Float} {c : Compact} {a b : List Float}
    → h.n ≡ t.shape.n → h.m ≡ t.shape.m → ((size : ℕ) → Sound t.shape size → Sound h size)
    → compact_of h theta (view b t.shape.n) ≡ c → ((q : ℕ) → q < 8 → view b t.shape.n q ≡ view a t.shape.n q)
    → FreeKept (view a t.shape.n) (view b t.shape.n) → Steps (M.with_compact c) t a (with_ring h theta t) b
compacted {t} {h} {theta} {c} {a} {b} n m s e l f = record {
  n = n;
  m = m;
  sound = s;
  kept = record { options = refl; extra = refl; settled = λ s. s };
  saved = record { x0 = l vector_x0 (omega arith); free = f };
  is =
      ap (λ (k : ℕ). machine (with_ring h theta t) (view b k)) n
      ∙ low_same (pairs_of h (view b t.shape.n)) (with_ring h theta t) (view a t.shape.n) (view b t.shape.n) l
      ∙ (λ i. machine_with (e i).pairs (with_ring (record { n = n i; m = m i; pairs = h.pairs; oldest = (e i).oldest }) (e i).theta t) (view a t.shape.n));
}

-- ---- counters

-- a charge that is made asks
pub charge_asks : (p : M.Phase) (m : M.Machine) (k : C.Counters) → Some k ≡ value_charge m.limits m.counters → M.in_phase p (M.counting k m) ≡ ask_value p m
unfolding ask_value
charge_asks p m k e = let h = charge_made m.limits m.counters k e in rw (h.0, h.1)

-- one that is not made ends the fit
pub charge_ends : (p : M.Phase) (m : M.Machine) → None ≡ value_charge m.limits m.counters → M.ending C.Termination.max_evaluations m ≡ ask_value p m
unfolding ask_value
charge_ends p m e = rw (charge_spent m.limits m.counters e)

-- ---- room

pub low_room : {h : Shape} {size : ℕ} (p : ℕ) → Sound h size → p < first_pair → p * h.n + h.n ≤ size
low_room p r l = vector_room p r (omega arith)

pub first_room : {h : Shape} {size : ℕ} → Sound h size → first_pair * h.n ≤ size
first_room r = omega (arith, r.all)
