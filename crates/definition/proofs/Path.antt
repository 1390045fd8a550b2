-- The path of the Cauchy point ends within n + 1 segments, whatever the floats, so the bound on their number is never what ends it:
-- the definition is the source's unbounded loop. Assumes nothing.
use Prim.Native.Nat.{ℕ, zero, suc, ◌+◌, ◌-◌, ◌*◌, ◌≤◌, ◌<◌}
use native.Mathlib.Omega.{arith}
use mathlib.Core.Path.{◌≡◌, refl, sym, ap, ◌∙◌, subst}
use mathlib.Core.Bool.{Bool, true, false, not, cond, ◌&&◌, false≢true}
use mathlib.Core.List.{List, [], ◌∷◌}
use Rattle.std.specs.Prelude.{Option, None, Some}
use lib.Dec.{T, ltb}
use lib.ListN.{length, get_or, get_or-eq_default}
use lib.Ieee.{Float, nan, inf, fin, eq, lt, le, sub, neg, up, down}
use lib.Ieee.Scale.{finite}
use borrow.Author.Tests.{eq-eqb, ltb-true, ltb-false}
use Rattle.definition.specs.Number.{plus, minus, over, total_le, zero64, infinity}
use Rattle.definition.specs.Vector.{fold_to, dot, ◌and_then◌}
use Rattle.definition.specs.Problem.{Bounds, or_else}
use Rattle.definition.specs.Compact.{Compact, product}
use Rattle.definition.specs.Geometry.{Break, no_break, inserted, break_time, breaks_of, Path, Segment, ended, onward, point_on_path, travelled}
use Rattle.definition.specs.Geometry.{stopped, stop_all, passed, along, by_slope, still, segment, walk, path_start, generalized_cauchy}
use Rattle.definition.specs.Values.{Each}
use Rattle.definition.specs.Paths.{first_segment, segment_after}
use Rattle.definition.proofs.Tests.{by_test, holds}
use Rattle.definition.proofs.Lists.{each_at}

-- ---- the break times are finite, and no more than the coordinates

abbrev FiniteTime : Break → Type 0
FiniteTime b = T (finite b.time)

record Breaks (n : ℕ) (bs : List Break) : Type 0 where
  finite : Each FiniteTime bs
  few : length bs ≤ n

inserted_breaks : (n : ℕ) (b : Break) (cs : List Break) → FiniteTime b → Breaks n cs → Breaks (suc n) (inserted b cs)
unfolding inserted
inserted_breaks n b [] h k = record { finite = (h, tt); few = omega arith }
inserted_breaks zero b (c ∷ cs) h k = absurd (omega (arith, k.few))
inserted_breaks (suc n) b (c ∷ cs) h k =
    let behind = inserted_breaks n b cs h (record { finite = k.finite.1; few = omega (arith, k.few) }) in
    by_test (Breaks (suc (suc n))) (total_le c.time b.time)
    (λ e. record { finite = (k.finite.0, behind.finite); few = omega (arith, behind.few) })
    (λ _. record { finite = (h, k.finite); few = omega (arith, k.few) })

breaks_are : (k : ℕ) (b : Bounds) (x g : List Float) → Breaks k (breaks_of k b x g)
unfolding breaks_of fold_to
breaks_are zero b x g = record { finite = tt; few = omega arith }
breaks_are (suc k) b x g =
    let bs = breaks_of k b x g in
    let h = breaks_are k b x g in
    let t = break_time b x g k in
    by_test (Breaks (suc k)) (finite t)
    (λ e. inserted_breaks k (record { time = t; coordinate = k }) bs (holds e) h)
    (λ _. record { finite = h.finite; few = omega (arith, h.few) })

-- ---- floats

eq_self : (t : Float) → T (finite t) → eq t t ≡ true
unfolding eq
eq_self nan h = absurd h
eq_self (inf s) h = absurd h
eq_self (fin true m e) h = ap (λ (x : Bool). x && true) (eq-eqb (m * up e * down e) (m * up e * down e) refl)
eq_self (fin false m e) h = ap (λ (x : Bool). x && true) (eq-eqb (m * up e * down e) (m * up e * down e) refl)

-- what is finite lies below the length of the segment that has no end
below_open : (x p : Float) → T (finite x) → T (finite p) → lt x (minus infinity p) ≡ true
unfolding lt sub
below_open x nan h k = absurd k
below_open x (inf s) h k = absurd k
below_open nan (fin t n d) h k = absurd h
below_open (inf s) (fin t n d) h k = absurd h
below_open (fin s m e) (fin t n d) h k = refl

-- ---- a segment that leads on passes a break

record Between (low high event : ℕ) : Type 0 where
  above : low ≤ event
  most : event ≤ high

stop_event : (left : ℕ) (b : Bounds) (x : List Float) (bs : List Break) (t : Float) (p : Path)
    → Between p.event (p.event + left) (stop_all left b x bs t p).event
unfolding stop_all
stop_event zero b x bs t p = record { above = omega arith; most = omega arith }
stop_event (suc left) b x bs t p =
    let next = stopped b x (get_or bs p.event no_break).coordinate p in
    let h = stop_event left b x bs t next in
    by_test (λ (q : Path). Between p.event (p.event + suc left) q.event) (eq (get_or bs p.event no_break).time t)
    (λ _. record { above = omega (arith, h.above); most = omega (arith, h.most) })
    (λ _. record { above = omega arith; most = omega arith })

stop_first : (left : ℕ) (b : Bounds) (x : List Float) (bs : List Break) (t : Float) (p : Path)
    → 0 < left → eq (get_or bs p.event no_break).time t ≡ true → p.event < (stop_all left b x bs t p).event
unfolding stop_all
stop_first zero b x bs t p l e = absurd (omega arith)
stop_first (suc left) b x bs t p l e =
    let next = stopped b x (get_or bs p.event no_break).coordinate p in
    subst (λ (c : Bool). p.event < (cond c (stop_all left b x bs t next) p).event) (sym e) (omega (arith, (stop_event left b x bs t next).above))

-- more than `low` breaks are passed where the segment leads on
record Passed (low : ℕ) (bs : List Break) (p : Path) : Type 0 where
  more : low < p.event
  most : p.event ≤ length bs
  time : T (finite p.previous)

abbrev Leads : ℕ → List Break → Segment → Type 0
Leads low bs (ended r) = Unit {0}
Leads low bs (onward p) = Passed low bs p

module _ (n : ℕ) (b : Bounds) (x : List Float) (bs : List Break) (f : Each FiniteTime bs) (p : Path) where
  passed_one : p.event < length bs → Passed p.event bs (passed n b x bs (get_or bs p.event no_break).time p)
  unfolding passed
  passed_one l =
      let t = (get_or bs p.event no_break).time in
      let q = travelled n (minus t p.previous) p in
      let w = each_at FiniteTime bs p.event no_break f l in
      let h = stop_event (length bs - p.event) b x bs t q in
      record { more = stop_first (length bs - p.event) b x bs t q (omega arith) (eq_self t w); most = omega (arith, h.most); time = w }

  leads_along : (least : Float) → T (finite p.previous) → Leads p.event bs (along n b x bs p (get_or bs p.event no_break).time least)
  unfolding along
  leads_along least k = go (finite least) refl (lt least (minus next p.previous)) refl (ltb p.event (length bs)) refl
    where
      next : Float
      next = (get_or bs p.event no_break).time

      go : (u : Bool) → finite least ≡ u → (v : Bool) → lt least (minus next p.previous) ≡ v → (w : Bool) → ltb p.event (length bs) ≡ w
          → Leads p.event bs (cond (not u) (ended None) (cond v (ended (point_on_path n b x (travelled n least p))) (onward (passed n b x bs next p))))
      go false a v c w e = tt
      go true a true c w e = tt
      go true a false c true e = passed_one (ltb-true p.event (length bs) e)
      go true a false c false e =
          let none_left = get_or-eq_default bs no_break (ltb-false p.event (length bs) e) in
          let far = ap (λ (z : Break). lt least (minus z.time p.previous)) none_left in
          absurd (false≢true (sym c ∙ far ∙ below_open least p.previous (holds a) k))

  leads_slope : (slope curvature : Float) → T (finite p.previous) → Leads p.event bs (by_slope n b x bs p slope curvature)
  unfolding by_slope
  leads_slope slope curvature k =
      by_test (Leads p.event bs) (not (finite slope && finite curvature && lt zero64 curvature)) (λ _. tt)
      (λ _. by_test (Leads p.event bs) (le zero64 slope) (λ _. tt) (λ _. leads_along (over (neg slope) curvature) k))

  leads_products : (slope : List Float → Float) (curvature : List Float → Float) (bd bz : Option (List Float)) → T (finite p.previous)
      → Leads p.event bs (or_else (bd and_then λ u. bz and_then λ v. Some (by_slope n b x bs p (slope v) (curvature u))) (ended None))
  leads_products slope curvature None bz k = tt
  leads_products slope curvature (Some bd) None k = tt
  leads_products slope curvature (Some bd) (Some bz) k = leads_slope (slope bz) (curvature bd) k

  leads_on : (c : Compact) (g : List Float) → T (finite p.previous) → Leads p.event bs (segment n b c x g bs p)
  unfolding segment
  leads_on c g k =
      let d = p.direction in
      by_test (Leads p.event bs) (still n p.direction) (λ _. tt)
      (λ _. leads_products (λ v. plus (dot n g d) (dot n v d)) (λ u. dot n d u) (product n c d) (product n c p.displacement) k)

-- ---- so the path ends, and a walk that may go so far gives its end

module _ (n : ℕ) (b : Bounds) (c : Compact) (x g : List Float) (bs : List Break) where
  after_end : (l : ℕ) (r : Option (List Float)) → segment_after l n b c x g bs (ended r) ≡ ended r
  unfolding segment_after
  after_end zero r = refl
  after_end (suc l) r = after_end l r

  ends : (l low : ℕ) (t : Segment) → Each FiniteTime bs → Leads low bs t → length bs ≤ low + l
      → (r : Option (List Float)) × (segment_after l n b c x g bs t ≡ ended r)
  unfolding segment_after
  ends zero low (ended r) f h k = (r, refl)
  ends zero low (onward p) f h k = absurd (omega (arith, h.more, h.most))
  ends (suc l) low (ended r) f h k = (r, after_end l r)
  ends (suc l) low (onward p) f h k = ends l p.event (segment n b c x g bs p) f (leads_on n b x bs f p c g h.time) (omega (arith, h.more))

  walk_ended : (l : ℕ) (r : Option (List Float)) → walk l n b c x g bs (ended r) ≡ r
  unfolding walk
  walk_ended zero r = refl
  walk_ended (suc l) r = refl

  walk_is : (l k : ℕ) (t : Segment) (r : Option (List Float)) → l ≤ k → segment_after l n b c x g bs t ≡ ended r → walk k n b c x g bs t ≡ r
  unfolding segment_after walk
  walk_is zero k (ended q) r h e = let w = walk_ended k q in cc
  walk_is zero k (onward p) r h e = cc
  walk_is (suc l) zero t r h e = absurd (omega arith)
  walk_is (suc l) (suc k) (ended q) r h e = let w = after_end l q in cc
  walk_is (suc l) (suc k) (onward p) r h e = walk_is l k (segment n b c x g bs p) r (omega arith) e

-- after n segments behind the first one the path has ended, with the Cauchy point or without
pub path_ends : (n : ℕ) (b : Bounds) (c : Compact) (x g : List Float)
    → segment_after n n b c x g (breaks_of n b x g) (first_segment n b c x g) ≡ ended (generalized_cauchy n b c x g)
unfolding generalized_cauchy
path_ends n b c x g =
    let bs = breaks_of n b x g in
    let k = breaks_are n b x g in
    let p = path_start n b x g in
    let r = ends n b c x g bs n 0 (first_segment n b c x g) k.finite (leads_on n b x bs k.finite p c g tt) (omega (arith, k.few)) in
    r.1 ∙ ap ended (sym (walk_is n b c x g bs n _ (first_segment n b c x g) r.0 (omega arith) r.1))

-- with any larger bound the Cauchy point is the same
pub bound_never_met : (n : ℕ) (b : Bounds) (c : Compact) (x g : List Float) (bound : ℕ) → n ≤ bound
    → walk bound n b c x g (breaks_of n b x g) (first_segment n b c x g) ≡ generalized_cauchy n b c x g
bound_never_met n b c x g bound h =
    walk_is n b c x g (breaks_of n b x g) n bound (first_segment n b c x g) (generalized_cauchy n b c x g) h (path_ends n b c x g)
