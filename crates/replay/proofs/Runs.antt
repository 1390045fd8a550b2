-- Laws of a run of probes: a value that leads to the next probe is taken, and so is the one that ends the run. Assumes nothing.
use mathlib.Core.Path.{◌≡◌, refl, sym, ap, ◌∙◌, subst}
use mathlib.Core.Bool.{true}
use mathlib.Core.List.{List}
use Prim.Native.Nat.{ℕ, ◌+◌, ◌≤◌, ◌<◌}
use native.Mathlib.Omega.{arith}
use lib.ListN.{length}
use lib.Ieee.{Float}
use Rattle.definition.specs.Number.{to_float}
use Rattle.definition.specs.Machine as M
use Rattle.definition.specs.Driver as D
use Rattle.fit.specs.State.{place_of, side_of, phase_of, machine_of, usizes, more_kept, with_extra, Steps}
use Rattle.fit.specs.Ready.{Ready}
use Rattle.fit.specs.declared.Extra.{Extra}
use Rattle.fit.specs.declared.Fit.{Fit}
use Rattle.fit.specs.declared.Place.{Place}
use Rattle.fit.specs.declared.Side.{Side}
use Rattle.fit.specs.declared.Phase.{Phase}
use Rattle.fit.specs.declared.Phase.TheVariants as P
use Rattle.fit.proofs.Laws.{steps_as}
use Rattle.differences.specs.declared.Probing.{Probing}
use Rattle.differences.specs.declared.Next.{Next}
use Rattle.differences.specs.declared.Next.TheVariants.{Probe, Complete, Ended}
use Rattle.differences.specs.Probing.{numbered, probing, Settles, reached, LeadsTo}
use Rattle.held.specs.Test.{shape_held}
use Rattle.driver.specs.declared.Reply.TheVariants as R
use Rattle.replay.specs.Taken.{Run, Took, logged, Offered}
use Rattle.replay.proofs.Laws.{took_by, took_more}

-- ---- one entry

-- a value at the probe q of t, of a fit that can be advanced
pub record Given (t : Fit) (q : Probing) (a : List Float) (ws : List ℕ) (limit room v l : ℕ) : Type 0 where
  pub here : q.extra.words < length ws
  pub within : q.i < t.shape.n
  pub ready : Ready t (length a)
  pub held : shape_held t.shape (length a) ≡ true
  pub said : Offered t.shape.n ws q limit room v l

-- the definition's step for it
abbrev Answers : Probing → Float → M.Place → M.Machine → M.Machine
Answers q x w = D.on_probe w q.i (side_of q.side) x

module _ (t : Fit) (q : Probing) (w : Place) (a : List Float) (ws : List ℕ) (limit room v l : ℕ) (h : Given t q a ws limit room v l) where
  taken : {f g : Fit} {b : List Float} (x : Float) → x ≡ to_float v → length b ≡ length a → Steps (Answers q x (place_of w)) (probing w q t) a f b
      → g ≡ with_extra (more_kept f.extra l) f → Took (probing w q t) a ws room g b
  taken x e size s g =
      took_by (probing w q t) a ws room h.here (R.Value v) l h.said.reads h.ready.sound h.held h.within refl h.said.fits size
      (steps_as s (ap (λ (y : Float). Answers q y (place_of w) (machine_of (probing w q t) a)) e)) g

  -- it leads to the next probe
  pub taken_on : (x : Float) (r : Next) (p : Probing) (b : List Float) → x ≡ to_float v → length b ≡ length a → LeadsTo (Answers q x) q t a r b → r ≡ Probe p
      → Took (probing w q t) a ws room (probing w (logged l p) t) b
  taken_on x r p b e size k is =
      let on = subst (λ (z : Next). LeadsTo (Answers q x) q t a z b) is k in
      taken x e size (on.is w (P.Probe w q.i q.side) (probing w p t) b (refl, refl)) refl

  pub next_within : (x : Float) (r : Next) (p : Probing) (b : List Float) → LeadsTo (Answers q x) q t a r b → r ≡ Probe p
      → (p.i < t.shape.n) × (p.counters.nit ≡ q.counters.nit) × (p.counters.njev ≡ q.counters.njev)
  next_within x r p b k is = let on = subst (λ (z : Next). LeadsTo (Answers q x) q t a z b) is k in (on.asks, on.nit, on.njev)

  pub next_words : (x : Float) (r : Next) (p : Probing) (b : List Float) → LeadsTo (Answers q x) q t a r b → r ≡ Probe p → p.extra ≡ q.extra
  next_words x r p b k is =
      let on = subst (λ (z : Next). LeadsTo (Answers q x) q t a z b) is k in
      (on.is w (P.Probe w q.i q.side) (probing w p t) b (refl, refl)).kept.extra

  -- or it is the last of the run
  settled_base : (p : Phase) (b d : List Float) (f : Fit) (r : Next) → Settles w p (probing w q t) b r f d → Settles w p t b r f d
  settled_base p b d f (Probe z) s = s
  settled_base p b d f (Complete z) s = s
  settled_base p b d f (Ended z why) s = s

  last_steps : (x : Float) (r : Next) (b d : List Float) (f : Fit) → LeadsTo (Answers q x) q t a r b
      → Settles w (P.Probe w q.i q.side) (probing w q t) b r f d → Steps (Answers q x (place_of w)) (probing w q t) a f d
  last_steps x r b d f k s = let p = P.Probe w q.i q.side in k.is w p f d (settled_base p b d f r s)

  pub taken_last : (x : Float) (r : Next) (b d : List Float) (f g : Fit) → x ≡ to_float v → length d ≡ length a → LeadsTo (Answers q x) q t a r b
      → Settles w (P.Probe w q.i q.side) (probing w q t) b r f d → g ≡ with_extra (more_kept f.extra l) f → Took (probing w q t) a ws room g d
  taken_last x r b d f g e size k s o = taken x e size (last_steps x r b d f k s) o

  -- the log's numbers are as they were
  pub last_extra : (x : Float) (r : Next) (b d : List Float) (f : Fit) → LeadsTo (Answers q x) q t a r b
      → Settles w (P.Probe w q.i q.side) (probing w q t) b r f d → f.extra ≡ q.extra
  last_extra x r b d f k s = (last_steps x r b d f k s).kept.extra

-- the log's numbers can be raised
pub counts_fit : {n : ℕ} {ws : List ℕ} {q : Probing} {limit room v l : ℕ} {x : Extra} → Offered n ws q limit room v l → limit < usizes → room < usizes
    → x ≡ q.extra → (x.entries + 1 < usizes) × (x.words + l < usizes)
counts_fit h m n e = rw e (omega (arith, h.few), omega (arith, h.fits))

-- ---- entry by entry

-- at the probe q of t: some entries are taken
pub record RunTo (ws : List ℕ) (limit room : ℕ) (t : Fit) (w : Place) (a : List Float) (q : Probing) (b : List Float) : Type 0 where
  pub size : length b ≡ length a
  pub within : q.i < t.shape.n
  pub nit : q.counters.nit ≡ t.counters.nit
  pub njev : q.counters.njev ≡ t.counters.njev
  pub taken : Run ws limit room t a (probing w q t) b

pub run_first : {ws : List ℕ} {limit room : ℕ} {t : Fit} {w : Place} {a : List Float} {q : Probing} → q.i < t.shape.n → t ≡ probing w q t
    → RunTo ws limit room t w a q a
run_first {ws} {limit} {room} {t} {w} {a} {q} h e = record {
  size = refl;
  within = h;
  nit = ap (λ (f : Fit). f.counters.nit) (sym e);
  njev = ap (λ (f : Fit). f.counters.njev) (sym e);
  taken = subst (λ (f : Fit). Run ws limit room t a f a) e Run.begun;
}

pub run_given : {ws : List ℕ} {limit room : ℕ} {t : Fit} {w : Place} {a b : List Float} {q : Probing} {v l : ℕ} → RunTo ws limit room t w a q b
    → Ready t (length a) → shape_held t.shape (length a) ≡ true → Offered t.shape.n ws q limit room v l → Given t q b ws limit room v l
run_given h ready held said =
    record {
      here = omega (arith, said.reads.size, said.reads.within);
      within = h.within;
      ready = rw h.size ready;
      held = rw h.size held;
      said = said;
    }

-- the counts that a step raises are as they were
pub run_ready : {ws : List ℕ} {limit room : ℕ} {t : Fit} {w : Place} {a b d : List Float} {q : Probing} {F : M.Place → M.Machine → M.Machine} {r : Next}
    {size : ℕ}
    → RunTo ws limit room t w a q b → LeadsTo F q t b r d → Ready t size → Ready (numbered (P.Probe w q.i q.side) (reached r) (probing w q t)) size
run_ready {t = t} {r = r} h k ready =
    let nit : (reached r).counters.nit ≡ t.counters.nit = k.nit ∙ h.nit in
    let njev : (reached r).counters.njev ≡ t.counters.njev = k.njev ∙ h.njev in
    record { sound = ready.sound; nit = rw nit ready.nit; njev = rw njev ready.njev; n = ready.n }

module _ {ws : List ℕ} {limit room : ℕ} {t : Fit} {w : Place} {a b d : List Float} {q : Probing} {v l : ℕ} (h : RunTo ws limit room t w a q b)
    (g : Given t q b ws limit room v l) where
  pub run_more : (x : Float) (r : Next) (p : Probing) {z : Probing} → x ≡ to_float v → length d ≡ length b → LeadsTo (Answers q x) q t b r d → r ≡ Probe p
      → z ≡ logged l p → RunTo ws limit room t w a z d
  run_more x r p e size k is o =
      let next = next_within t q w b ws limit room v l g x r p d k is in
      rw o
      (record {
        size = size ∙ h.size;
        within = next.0;
        nit = next.1 ∙ h.nit;
        njev = next.2 ∙ h.njev;
        taken =
            Run.taken (probing w q t) b (probing w (logged l p) t) d h.taken g.said.few size
            (taken_on t q w b ws limit room v l g x r p d e size k is);
      })

  pub run_words : (x : Float) (r : Next) (p : Probing) {z : Probing} → x ≡ to_float v → length d ≡ length b → LeadsTo (Answers q x) q t b r d → r ≡ Probe p
      → z ≡ logged l p → q.extra.words < z.extra.words
  run_words x r p e size k is o = rw o (took_more (taken_on t q w b ws limit room v l g x r p d e size k is))

  pub run_last : (x : Float) (r : Next) (c : List Float) (f o : Fit) → x ≡ to_float v → length d ≡ length b → LeadsTo (Answers q x) q t b r c
      → Settles w (P.Probe w q.i q.side) (probing w q t) c r f d → o ≡ with_extra (more_kept f.extra l) f → Run ws limit room t a o d
  run_last x r c f o e size k s i =
      Run.taken (probing w q t) b o d h.taken g.said.few size (taken_last t q w b ws limit room v l g x r c d f o e size k s i)

-- no entry is struck
pub run_least : {ws : List ℕ} {limit room : ℕ} {t : Fit} {a : List Float} {f : Fit} {b : List Float} → Run ws limit room t a f b → t.extra.words ≤ f.extra.words
run_least Run.begun = omega arith
run_least (Run.taken f b g d r l size k) = omega (arith, run_least r, took_more k)

-- a fit at a probe, by its numbers
module _ (t : Fit) (w : Place) (i : ℕ) (side : Side) (q : Probing) (h : t.phase ≡ P.Probe w i side) (k : q.i ≡ i) (l : q.side ≡ side) where
  same_probe : t.phase ≡ P.Probe w q.i q.side
  same_probe = h ∙ (λ j. P.Probe w (sym k j) (sym l j))

  pub at_probe : numbered t.phase q t ≡ t → t ≡ probing w q t
  at_probe e = sym e ∙ ap (λ (p : Phase). numbered p q t) same_probe

  pub probe_below : M.InRange (phase_of t.phase) t.shape.n → q.i < t.shape.n
  probe_below r = subst (λ (p : Phase). M.InRange (phase_of p) t.shape.n) same_probe r
