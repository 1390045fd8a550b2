-- A value at a probe: what it changes of a fit, and what follows it, for each place and phase alike.
use Rattle.std.specs.Prelude.{ℕ, ◌<◌, ◌≡◌, Bool, true, false, List, Float}
use Rattle.definition.specs.Gradient as G
use Rattle.definition.specs.Machine as M
use Rattle.definition.specs.Driver.{complete}
use Rattle.fit.specs.State.{place_of, Steps}
use Rattle.fit.specs.declared.Fit.{Fit}
use Rattle.fit.specs.declared.Place.{Place}
use Rattle.fit.specs.declared.Phase.{Phase}
use Rattle.fit.specs.declared.Phase.TheVariants as P
use Rattle.differences.specs.declared.Probing.{Probing}
use Rattle.differences.specs.declared.Next.{Next}
use Rattle.differences.specs.declared.Next.TheVariants.{Probe, Complete, Ended}

-- t in a phase, with the numbers of q
abbrev pub numbered : Phase → Probing → Fit → Fit
numbered p q t = record {
  shape = t.shape;
  options = t.options;
  limits = t.limits;
  counters = q.counters;
  phase = p;
  search = t.search;
  value = t.value;
  trial_value = t.trial_value;
  right_value = q.right_value;
  value_before = t.value_before;
  theta = t.theta;
  extra = q.extra;
}

-- t at the probe q of a place
abbrev pub probing : Place → Probing → Fit → Fit
probing w q t = numbered (P.Probe w q.i q.side) q t

-- f with the area d is what r leads to, from the area b
abbrev pub Settles : Place → Phase → Fit → List Float → Next → Fit → List Float → Type 0
Settles w p t b (Probe q) f d = (f ≡ probing w q t) × (d ≡ b)
Settles w p t b (Complete q) f d = Steps (complete (place_of w)) (numbered p q t) b f d
Settles w p t b (Ended q why) f d = (f ≡ numbered (P.Ended why) q t) × (d ≡ b)

abbrev pub reached : Next → Probing
reached (Probe q) = q
reached (Complete q) = q
reached (Ended q why) = q

-- a probe is of a coordinate that there is
abbrev pub Asks : Next → ℕ → Type 0
Asks (Probe q) n = q.i < n
Asks (Complete q) n = Unit {0}
Asks (Ended q why) n = Unit {0}

-- t with the numbers of q and the area a leads to r with the area b: whatever settles r is t taken through F
pub record LeadsTo (F : M.Place → M.Machine → M.Machine) (q : Probing) (t : Fit) (a : List Float) (r : Next) (b : List Float) : Type 0 where
  pub asks : Asks r t.shape.n
  pub nit : (reached r).counters.nit ≡ q.counters.nit
  pub njev : (reached r).counters.njev ≡ q.counters.njev
  pub is : (w : Place) (p : Phase) (f : Fit) (d : List Float) → Settles w p t b r f d → Steps (F (place_of w)) (numbered p q t) a f d

-- a coordinate that is not probed
abbrev pub unprobed : G.Probes → Bool
unprobed G.Probes.neither = true
unprobed (G.Probes.both r l) = false
unprobed (G.Probes.right_only r) = false
unprobed (G.Probes.left_only l) = false

-- the side that is probed first
abbrev pub first_side : G.Probes → M.Side
first_side G.Probes.neither = M.Side.right
first_side (G.Probes.both r l) = M.Side.right
first_side (G.Probes.right_only r) = M.Side.right
first_side (G.Probes.left_only l) = M.Side.left
