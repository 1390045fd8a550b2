-- Laws of `LeadsTo`: how it joins with a step before it, and what the budget and the gradient's end lead to. Assumes nothing.
use mathlib.Core.Path.{◌≡◌, refl, ap}
use mathlib.Core.List.{List}
use Rattle.std.specs.Prelude.{None, Some}
use Prim.Native.Nat.{ℕ, ◌<◌}
use lib.Ieee.{Float}
use Rattle.definition.specs.Machine as M
use Rattle.definition.specs.Machine.{Machine}
use Rattle.definition.specs.Counters as C
use Rattle.definition.specs.Driver.{ask_value}
use Rattle.problem.specs.Setups.{limits_of}
use Rattle.counters.specs.declared.Counters.{Counters}
use Rattle.counters.specs.declared.Termination.{Termination}
use Rattle.counters.specs.declared.Termination.TheVariants.{MaxEvaluations}
use Rattle.counters.specs.Counts.{counters_of, termination_of, value_charge}
use Rattle.counters.proofs.Laws.{charge_made}
use Rattle.fit.specs.declared.Fit.{Fit}
use Rattle.fit.specs.declared.Place.{Place}
use Rattle.fit.specs.declared.Phase.{Phase}
use Rattle.fit.specs.declared.Phase.TheVariants as P
use Rattle.fit.specs.declared.Side.{Side}
use Rattle.fit.specs.State.{place_of, side_of, machine, machine_of, Steps}
use Rattle.fit.proofs.Laws.{still, steps_as, steps_from, charge_asks, charge_ends}
use Rattle.differences.specs.declared.Probing.{Probing}
use Rattle.differences.specs.declared.Next.{Next}
use Rattle.differences.specs.declared.Next.TheVariants.{Probe, Ended}
use Rattle.differences.specs.Probing.{numbered, probing, Settles, LeadsTo}

-- G does to these machines what F does
pub leads_as : {F G : M.Place → Machine → Machine} {q : Probing} {t : Fit} {a : List Float} {r : Next} {b : List Float} → LeadsTo F q t a r b
    → ((w : Place) (p : Phase) → F (place_of w) (machine_of (numbered p q t) a) ≡ G (place_of w) (machine_of (numbered p q t) a)) → LeadsTo G q t a r b
leads_as h e = record { asks = h.asks; nit = h.nit; njev = h.njev; is = λ w p f d s. steps_as (h.is w p f d s) (e w p) }

-- the value v right of the coordinate
abbrev pub with_right_value : Float → Probing → Probing
with_right_value v q = record { i = q.i; side = q.side; right_value = v; counters = q.counters; extra = q.extra }

-- the same, seen from the numbers before that value
pub leads_right : {F G : M.Place → Machine → Machine} {q : Probing} {t : Fit} {a : List Float} {r : Next} {b : List Float} (v : Float)
    → LeadsTo F (with_right_value v q) t a r b
    → ((w : Place) (p : Phase) → F (place_of w) (machine_of (numbered p (with_right_value v q) t) a) ≡ G (place_of w) (machine_of (numbered p q t) a))
    → LeadsTo G q t a r b
leads_right v h e = record {
  asks = h.asks;
  nit = h.nit;
  njev = h.njev;
  is = λ w p f d s. steps_from (h.is w p f d s) refl (record { options = refl; extra = refl; settled = λ s. s }) (e w p);
}

-- ---- a probe is asked, or the budget is spent

module _ (q : Probing) (t : Fit) (i : ℕ) (side : Side) where
  abbrev pub asking : M.Place → Machine → Machine
  asking w = ask_value (M.Phase.probe w i (side_of side))

  -- the probe asked, with the counters k
  abbrev pub asked_by : Counters → Probing
  asked_by k = record { i = i; side = side; right_value = q.right_value; counters = k; extra = q.extra }

  pub charged_leads : (k : Counters) → i < t.shape.n → Some (counters_of k) ≡ value_charge (limits_of t.limits) (counters_of q.counters)
      → (a : List Float) → LeadsTo asking q t a (Probe (asked_by k)) a
  charged_leads k h e a =
      let charged = (charge_made (limits_of t.limits) (counters_of q.counters) (counters_of k) e).1 in
      record {
        asks = h;
        nit = ap (λ (c : C.Counters). c.nit) charged;
        njev = ap (λ (c : C.Counters). c.njev) charged;
        is = λ w p f d s.
            let F = asking (place_of w) in
            let on : Steps F (numbered p q t) a (probing w (asked_by k) t) a =
            still {F = F} {G = F}
            (record {
              shape = refl;
              kept = record { options = refl; extra = refl; settled = λ s. s };
              is = λ v. charge_asks (M.Phase.probe (place_of w) i (side_of side)) (machine (numbered p q t) v) (counters_of k) e;
            })
            refl in
            rw (s.0, s.1) on;
      }

-- what ends the fit, by what F does to these machines
pub ended_leads : {F : M.Place → Machine → Machine} (q : Probing) (t : Fit) (why : Termination) (a : List Float)
    → ((w : Place) (p : Phase) (m : Machine) → m ≡ machine_of (numbered p q t) a → M.ending (termination_of why) m ≡ F (place_of w) m)
    → LeadsTo F q t a (Ended q why) a
ended_leads {F} q t why a e = record {
  asks = tt;
  nit = refl;
  njev = refl;
  is = λ w p f d s.
      let G = M.ending (termination_of why) in
      let on : Steps (F (place_of w)) (numbered p q t) a (numbered (P.Ended why) q t) a =
      still {F = G} {G = F (place_of w)}
      (record { shape = refl; kept = record { options = refl; extra = refl; settled = λ s. s }; is = λ v. refl })
      (e w p (machine_of (numbered p q t) a) refl) in
      rw (s.0, s.1) on;
}

pub spent_leads : (q : Probing) (t : Fit) (i : ℕ) (side : Side) → None ≡ value_charge (limits_of t.limits) (counters_of q.counters)
    → (a : List Float) → LeadsTo (asking q t i side) q t a (Ended q MaxEvaluations) a
spent_leads q t i side e a =
    ended_leads {F = asking q t i side} q t MaxEvaluations a
    (λ w p m h. charge_ends (M.Phase.probe (place_of w) i (side_of side)) m (rw h e))

-- ---- what follows is settled

-- with the numbers of a fit
pub leads_settled : {F : M.Place → Machine → Machine} {q : Probing} {t f : Fit} {a b d : List Float} {r : Next} (w : Place) → LeadsTo F q t a r b
    → numbered t.phase q t ≡ t → Settles w t.phase t b r f d → Steps (F (place_of w)) t a f d
leads_settled {F} {q} {t} {f} {a} {b} {d} {r} w h e s = rw e at (h.is w t.phase f d s)
