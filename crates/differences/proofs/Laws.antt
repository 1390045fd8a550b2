-- Laws of the differenced gradient: the loop over coordinates, a component stored, and the branches of a probe's value. Assumes nothing.
use mathlib.Core.Path.{◌≡◌, refl, sym, ap, ◌∙◌}
use mathlib.Core.Bool.{true, false, true≢false}
use mathlib.Core.List.{List}
use Prim.Native.Nat.{ℕ, suc, ◌+◌, ◌*◌, ◌-◌, ◌≤◌, ◌<◌}
use native.Mathlib.Omega.{arith}
use lib.ListN.{length}
use lib.Ieee.{Float}
use lib.Ieee.Scale.{finite}
use Rattle.definition.specs.Number.{zero64}
use Rattle.definition.specs.Vector.{word}
use Rattle.definition.specs.Gradient.{Probes, probes_at, both_quotient}
use Rattle.definition.specs.Machine as M
use Rattle.definition.specs.Machine.{Machine}
use Rattle.definition.specs.Driver.{ask_value, complete, with_component, by_probes, probe_from, probed_to, probed, on_not_supplied, on_probe}
use Rattle.area.specs.Area.{Vecs, view, upd, put_word, fill_of, rowwise, first_pair, Saved, vector_trial, vector_lower, vector_upper, vector_trial_gradient}
use Rattle.area.proofs.Laws.{word-view, saved_refl, saved_upd}
use Rattle.problem.specs.Setups.{scheme_of}
use Rattle.counters.specs.declared.Termination.TheVariants.{Nonfinite}
use Rattle.gradient.specs.Probing.{probes_for}
use Rattle.gradient.proofs.Laws.{probes_read}
use Rattle.fit.specs.declared.Fit.{Fit}
use Rattle.fit.specs.declared.Phase.{Phase}
use Rattle.fit.specs.declared.Side.{Side}
use Rattle.fit.specs.declared.Side.TheVariants.{Right, Left}
use Rattle.fit.specs.State.{place_of, side_of, machine, machine_of, Steps}
use Rattle.fit.proofs.Laws.{pairs_kept, steps_at_lem}
use Rattle.differences.specs.declared.Probing.{Probing}
use Rattle.differences.specs.declared.Next.{Next}
use Rattle.differences.specs.declared.Next.TheVariants.{Complete, Ended}
use Rattle.differences.specs.Probing.{numbered, LeadsTo, unprobed, first_side}
use Rattle.differences.proofs.Leads.{leads_as, leads_right, with_right_value, asking, ended_leads}

-- ---- coordinate by coordinate

-- by what coordinate j asks
by_probes_lem : (n : ℕ) (w : M.Place) (j : ℕ) (m : Machine) {p : Probes} → j < n → p ≡ probes_at m.terms m.trial.x j
    → by_probes w j m (probe_from (n - (j + 1)) w (j + 1) (with_component j zero64 m)) p ≡ probe_from (n - j) w j m
unfolding probe_from
by_probes_lem n w j m h e = let q : n - j ≡ suc (n - (j + 1)) = omega arith in rw (q, ← e)

-- a coordinate that is probed asks on its first side
by_first : (w : M.Place) (j : ℕ) (m next : Machine) (p : Probes) → unprobed p ≡ false → ask_value (M.Phase.probe w j (first_side p)) m ≡ by_probes w j m next p
by_first w j m next Probes.neither h = absurd (true≢false h)
by_first w j m next (Probes.both r l) h = refl
by_first w j m next (Probes.right_only r) h = refl
by_first w j m next (Probes.left_only l) h = refl

-- one that is not probed passes
by_none : (w : M.Place) (j : ℕ) (m next : Machine) (p : Probes) → unprobed p ≡ true → next ≡ by_probes w j m next p
by_none w j m next Probes.neither h = refl
by_none w j m next (Probes.both r l) h = absurd (true≢false (sym h))
by_none w j m next (Probes.right_only r) h = absurd (true≢false (sym h))
by_none w j m next (Probes.left_only l) h = absurd (true≢false (sym h))

-- no coordinate is left
all_probed : (n : ℕ) (w : M.Place) (j : ℕ) (m : Machine) → n ≤ j → complete w m ≡ probe_from (n - j) w j m
unfolding probe_from
all_probed n w j m l = let q : n - j ≡ 0 = omega arith in rw q

-- what is probed, read off the area
pub probes_of_lem : (t : Fit) (a : List Float) (i : ℕ) → i < t.shape.n
    → probes_for t.options.eps (scheme_of t.options.scheme)
    (word a (vector_trial * t.shape.n + i)) (word a (vector_lower * t.shape.n + i)) (word a (vector_upper * t.shape.n + i))
    ≡ probes_at (machine_of t a).terms (view a t.shape.n vector_trial) i
probes_of_lem t a i h = probes_read (machine_of t a).terms a t.shape.n i h refl refl

-- ---- component j of the trial's gradient is stored

saved_gradient : {a b : Vecs} (g : List Float) → Saved a b → Saved a (upd b vector_trial_gradient g)
saved_gradient g h = saved_upd vector_trial_gradient g (omega arith) (λ e. omega arith) h

put_component : (t : Fit) (v : Vecs) (j : ℕ) (x : Float) → machine t (put_word v vector_trial_gradient j x) ≡ with_component j x (machine t v)
put_component t v j x = let l : vector_trial_gradient < first_pair = omega arith in rw pairs_kept

component_put : {F G : Machine → Machine} {t r : Fit} {a b d : List Float} (j : ℕ) (x : Float)
    → Steps F t b r d → view b t.shape.n ≡ put_word (view a t.shape.n) vector_trial_gradient j x
    → F (with_component j x (machine_of t a)) ≡ G (machine_of t a) → Steps G t a r d
component_put {F = F} {t = t} {a = a} j x h e g =
    steps_at_lem h e (saved_gradient _ saved_refl) (ap F (put_component t (view a t.shape.n) j x) ∙ g)

pub component_leads : {q : Probing} {t : Fit} {a b d : List Float} {r : Next} (v : Float)
    → LeadsTo (λ w. probe_from (t.shape.n - (q.i + 1)) w (q.i + 1)) q t b r d
    → view b t.shape.n ≡ put_word (view a t.shape.n) vector_trial_gradient q.i v → LeadsTo (λ w. probed_to w q.i v) q t a r d
component_leads {q} {t} v h e = record {
  asks = h.asks;
  nit = h.nit;
  njev = h.njev;
  is = λ w p f d s. component_put {G = probed_to (place_of w) q.i v} q.i v (h.is w p f d s) e refl;
}

-- the whole gradient is 0
pub gradient_put : {t r : Fit} {a b d : List Float} (w : M.Place)
    → Steps (probe_from (t.shape.n - 0) w 0) t b r d → view b t.shape.n ≡ fill_of t.shape.n vector_trial_gradient zero64 (view a t.shape.n)
    → Steps (on_not_supplied w) t a r d
unfolding on_not_supplied fill_of rowwise
gradient_put {t} w h e =
    let l : vector_trial_gradient < first_pair = omega arith in
    let q : t.shape.n - 0 ≡ t.shape.n = omega arith in
    steps_at_lem h e (saved_gradient _ saved_refl) (rw (q, pairs_kept))

-- ---- a loop that passes the coordinates where nothing is probed: from i to j the area has become b

pub record Passed (q : Probing) (t : Fit) (i : ℕ) (a b : List Float) (j : ℕ) : Type 0 where
  pub upto : j ≤ t.shape.n
  pub long : length b ≡ length a
  pub saved : Saved (view a t.shape.n) (view b t.shape.n)
  pub is : (w : M.Place) (p : Phase)
      → probe_from (t.shape.n - j) w j (machine_of (numbered p q t) b) ≡ probe_from (t.shape.n - i) w i (machine_of (numbered p q t) a)

pub passed_more : {q : Probing} {t : Fit} {i : ℕ} {a b d : List Float} {j : ℕ} {x : Probes} → Passed q t i a b j → j < t.shape.n → length d ≡ length b
    → view d t.shape.n ≡ put_word (view b t.shape.n) vector_trial_gradient j zero64
    → x ≡ probes_at (machine_of t b).terms (view b t.shape.n vector_trial) j → unprobed x ≡ true → Passed q t i a d (j + 1)
passed_more {q} {t} {i} {a} {b} {d} {j} {x} r h l e o u = record {
  upto = omega arith;
  long = l ∙ r.long;
  saved = rw e (saved_gradient _ r.saved);
  is = λ w p.
      let m = machine_of (numbered p q t) b in
      ap (λ (v : Vecs). probe_from (t.shape.n - (j + 1)) w (j + 1) (machine (numbered p q t) v)) e
      ∙ ap (probe_from (t.shape.n - (j + 1)) w (j + 1)) (put_component (numbered p q t) (view b t.shape.n) j zero64)
      ∙ by_none w j m _ x u
      ∙ by_probes_lem t.shape.n w j m h o
      ∙ r.is w p;
}

module _ {q : Probing} {t : Fit} {i : ℕ} {a b : List Float} {j : ℕ} (k : Passed q t i a b j) where
  -- the next coordinate is probed
  pub passed_asks : (side : Side) {x : Probes} {r : Next} → j < t.shape.n → x ≡ probes_at (machine_of t b).terms (view b t.shape.n vector_trial) j
      → unprobed x ≡ false → side_of side ≡ first_side x → LeadsTo (asking q t j side) q t b r b → LeadsTo (λ w. probe_from (t.shape.n - i) w i) q t a r b
  passed_asks side {x} {r} l o u s h = record {
    asks = h.asks;
    nit = h.nit;
    njev = h.njev;
    is = λ w p f d z.
        let m = machine_of (numbered p q t) b in
        steps_at_lem (h.is w p f d z) refl k.saved
        (ap (λ (y : M.Side). ask_value (M.Phase.probe (place_of w) j y) m) s
        ∙ by_first (place_of w) j m _ x u
        ∙ by_probes_lem t.shape.n (place_of w) j m l o
        ∙ k.is (place_of w) p);
  }

  -- none is left
  pub passed_complete : t.shape.n ≤ j → LeadsTo (λ w. probe_from (t.shape.n - i) w i) q t a (Complete q) b
  passed_complete l = record {
    asks = tt;
    nit = refl;
    njev = refl;
    is = λ w p f d z. steps_at_lem z refl k.saved (all_probed t.shape.n (place_of w) j (machine_of (numbered p q t) b) l ∙ k.is (place_of w) p);
  }

-- ---- the branches of a probe's value

finite_branch : (w : M.Place) (i : ℕ) (side : M.Side) (v : Float) (m : Machine) {x : Probes} → finite v ≡ true
    → x ≡ probes_at m.terms m.trial.x i → probed w i x side v m ≡ on_probe w i side v m
unfolding on_probe
finite_branch w i side v m f e = rw (f, ← e)

module _ (q : Probing) (t : Fit) (a : List Float) where
  -- right of a coordinate that is probed on both sides
  pub right_probed : (r l v : Float) (z : Next) → LeadsTo (asking (with_right_value v q) t q.i Left) (with_right_value v q) t a z a → q.side ≡ Right
      → LeadsTo (λ w. probed w q.i (Probes.both r l) (side_of q.side) v) q t a z a
  right_probed r l v z h e =
      leads_right v h
      (λ w p. ap (λ (s : Side). probed (place_of w) q.i (Probes.both r l) (side_of s) v (machine_of (numbered p q t) a)) (sym e))

  -- and left of it
  pub left_probed : (r l v x : Float) (z : Next) (b : List Float) → LeadsTo (λ w. probed_to w q.i x) q t a z b → x ≡ both_quotient r l q.right_value v
      → q.side ≡ Left → LeadsTo (λ w. probed w q.i (Probes.both r l) (side_of q.side) v) q t a z b
  left_probed r l v x z b h e d =
      leads_as h
      (λ w p.
      ap (λ (c : Float). probed_to (place_of w) q.i c (machine_of (numbered p q t) a)) e
      ∙ ap (λ (s : Side). probed (place_of w) q.i (Probes.both r l) (side_of s) v (machine_of (numbered p q t) a)) (sym d))

  -- the component is a quotient Q of the trial point and its value, with the point y and the value v of a probe
  pub quotient_probed : (Q : Float → Float → Float → Float → Float) (y v x : Float) (z : Next) (b : List Float) → q.i < t.shape.n
      → LeadsTo (λ w. probed_to w q.i x) q t a z b → x ≡ Q (word a (vector_trial * t.shape.n + q.i)) t.trial_value y v
      → LeadsTo (λ w m. probed_to w q.i (Q (word m.trial.x q.i) m.trial.f y v) m) q t a z b
  quotient_probed Q y v x z b l h e =
      leads_as h
      (λ w p.
      ap (λ (c : Float). probed_to (place_of w) q.i c (machine_of (numbered p q t) a))
      (e ∙ ap (λ (u : Float). Q u t.trial_value y v) (word-view a t.shape.n vector_trial q.i l)))

  -- a finite value, by what is probed
  pub finite_probed : (v : Float) (x : Probes) (z : Next) (b : List Float) → q.i < t.shape.n → finite v ≡ true
      → x ≡ probes_for t.options.eps (scheme_of t.options.scheme)
      (word a (vector_trial * t.shape.n + q.i)) (word a (vector_lower * t.shape.n + q.i)) (word a (vector_upper * t.shape.n + q.i))
      → LeadsTo (λ w. probed w q.i x (side_of q.side) v) q t a z b → LeadsTo (λ w. on_probe w q.i (side_of q.side) v) q t a z b
  finite_probed v x z b l f e h =
      leads_as h (λ w p. finite_branch (place_of w) q.i (side_of q.side) v (machine_of (numbered p q t) a) f (e ∙ probes_of_lem t a q.i l))

  -- one that is not
  pub nonfinite_probed : (v : Float) → finite v ≡ false → LeadsTo (λ w. on_probe w q.i (side_of q.side) v) q t a (Ended q Nonfinite) a
  unfolding on_probe
  nonfinite_probed v f = ended_leads q t Nonfinite a (λ w p m h. rw f)
