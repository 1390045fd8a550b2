-- What an accepted setup and a reply that is due keep to: the checks that they passed, as facts. Assumes nothing.
use Prim.Native.Nat.{ℕ, ◌≤◌, ◌<◌}
use native.Mathlib.Omega.{arith}
use mathlib.Core.Path.{◌≡◌, refl, sym}
use mathlib.Core.Bool.{Bool, true, false, not, ◌||◌}
use mathlib.Core.List.{List}
use Rattle.std.specs.Prelude.{Option, None, Some}
use lib.Dec.{eqb, ltb}
use lib.ListN.{length}
use lib.Ieee as Ieee
use lib.Ieee.{Float, nan, is_nan}
use lib.Ieee.Scale.{finite}
use borrow.Author.Tests.{eqb-true, eqb-false, ltb-false, not-false}
use Rattle.definition.specs.Number.{zero64}
use Rattle.definition.specs.Vector.{word}
use Rattle.definition.specs.Problem.{Setup, Bounds, Refusal, Check, refuse, when, ◌then◌, each_index, given, positive, finite_positive}
use Rattle.definition.specs.Problem.{finite_nonnegative, at_most, most_coordinates, most_pairs, most_budget, check_side, check_pair, check_bounds}
use Rattle.definition.specs.Problem.{check_problem, check_common, check_options, check_limits, validate, dimension, or_else, open_bounds}
use Rattle.definition.specs.Machine.{Reply, Machine, takes, check_length, check_due}
use Rattle.definition.specs.Replies.{Accepted}
use Rattle.definition.specs.Values.{Each, Given}
use Rattle.definition.specs.Facts.{InLimits}
use Rattle.definition.proofs.Lists.{each_of}
use Rattle.definition.proofs.Vectors.{length-tab, fold_to_each}

-- ---- checks that passed

pub both_passed : (a b : Check) → (a then b) ≡ None → (a ≡ None) × (b ≡ None)
both_passed None b e = (refl, e)
both_passed (Some r) b e = let z : ◌≡◌ {A = ℕ} 0 1 = cc in absurd (omega arith)

pub test_failed : (t : Bool) (r : Refusal) → when t (Some r) ≡ None → t ≡ false
test_failed true r e = let z : ◌≡◌ {A = ℕ} 0 1 = cc in absurd (omega arith)
test_failed false r e = refl

each_passed : (n : ℕ) (check : ℕ → Check) → each_index n check ≡ None → (i : ℕ) → i < n → check i ≡ None
each_passed n check =
    fold_to_each (λ (c : Check). c ≡ None) (λ (i : ℕ). check i ≡ None) (λ i c. c then check i) None (λ i c. both_passed c (check i)) n

given_passed : {A : Type 0} (check : A → Check) (P : A → Type 0) (o : Option A) → ((a : A) → check a ≡ None → P a) → given check o ≡ None → Given P o
given_passed check P None f e = tt
given_passed check P (Some a) f e = f a e

given_both : {A : Type 0} (P Q : A → Type 0) (o : Option A) → Given P o → Given Q o → Given (λ a. P a × Q a) o
given_both P Q None p q = tt
given_both P Q (Some a) p q = (p, q)

-- ---- a reply that is due

pub due_taken : (m : Machine) (r : Reply) → check_due m r ≡ None → takes m r ≡ true
due_taken m r e =
    not-false (takes m r) (test_failed (not (takes m r)) _ (both_passed (when (not (takes m r)) (refuse 13 0 0)) (check_length m.terms.n r) e).0)

pub due_length : (m : Machine) (ws : List ℕ) → check_due m (Reply.gradient ws) ≡ None → length ws ≡ m.terms.n
due_length m ws e =
    let p = both_passed (when (not (takes m (Reply.gradient ws))) (refuse 13 0 0)) (check_length m.terms.n (Reply.gradient ws)) e in
    eqb-true (length ws) m.terms.n (not-false (eqb (length ws) m.terms.n) (test_failed (not (eqb (length ws) m.terms.n)) _ p.1))

-- ---- one value of a setup

above_zero : (k : ℕ) (r : Refusal) → when (eqb k 0) (Some r) ≡ None → 1 ≤ k
above_zero k r e = let n = eqb-false k 0 (test_failed (eqb k 0) r e) in omega arith

most : (limit detail k : ℕ) → at_most limit detail k ≡ None → k ≤ limit
most limit detail k e = ltb-false limit k (test_failed (ltb limit k) _ e)

finite_or : (v : Float) (t : Bool) (r : Refusal) → when (not (finite v) || t) (Some r) ≡ None → finite v ≡ true
finite_or v t r e = go (finite v) (test_failed (not (finite v) || t) r e)
  where
    go : (f : Bool) → (not f || t) ≡ false → f ≡ true
    go true e = refl
    go false e = sym e

abbrev pub Finite : Float → Type 0
Finite x = finite x ≡ true

abbrev pub Plain : Float → Type 0
Plain x = is_nan x ≡ false

-- a side of the box: one bound for each coordinate, none of them NaN
pub record OneSide (n : ℕ) (side : List Float) : Type 0 where
  pub size : length side ≡ n
  pub plain : Each Plain side

side_passed : (n : ℕ) (side : List Float) → check_side n side ≡ None → OneSide n side
side_passed n side e =
    let p = both_passed _ (each_index n (λ i. when (is_nan (word side i)) (refuse 4 i 0))) e in
    let size = eqb-true (length side) n (not-false (eqb (length side) n) (test_failed (not (eqb (length side) n)) _ p.0)) in
    record {
      size = size;
      plain = each_of Plain side nan
          (λ i h. test_failed (is_nan (word side i)) _ (each_passed n (λ i. when (is_nan (word side i)) (refuse 4 i 0)) p.1 i (omega arith)));
    }

-- the box: its sides, and no lower bound above its upper one
pub record Sides (n : ℕ) (b : Bounds) : Type 0 where
  pub lower : OneSide n b.lower
  pub upper : OneSide n b.upper
  pub ordered : (i : ℕ) → i < n → Ieee.lt (word b.upper i) (word b.lower i) ≡ false

-- ---- an accepted setup

abbrev pub Count : ℕ → ℕ → Type 0
Count limit k = (1 ≤ k) × (k ≤ limit)

pub record Passed (s : Setup) : Type 0 where
  pub size : Count most_coordinates (dimension s)
  pub x0 : Each Finite s.x0
  pub bounds : Given (Sides (dimension s)) s.bounds
  pub maxiter : Given (Count most_budget) s.maxiter
  pub maxfev : Given (Count most_budget) s.maxfev
  pub maxcor : Given (Count most_pairs) s.maxcor
  pub tol : Given Finite s.tol
  pub ftol : Given Finite s.ftol
  pub gtol : Given Finite s.gtol
  pub eps : Given Finite s.eps

count_passed : (limit option detail : ℕ) (o : Option ℕ) → given (positive option) o ≡ None → given (at_most limit detail) o ≡ None → Given (Count limit) o
count_passed limit option detail o e f =
    given_both (λ k. 1 ≤ k) (λ k. k ≤ limit) o (given_passed (positive option) _ o (λ k. above_zero k _) e)
    (given_passed (at_most limit detail) _ o (most limit detail) f)

finite_passed : (option : ℕ) (o : Option Float) → given (finite_positive option) o ≡ None → Given Finite o
finite_passed option o e = given_passed (finite_positive option) Finite o (λ v. finite_or v (Ieee.le v zero64) _) e

nonnegative_passed : (option : ℕ) (o : Option Float) → given (finite_nonnegative option) o ≡ None → Given Finite o
nonnegative_passed option o e = given_passed (finite_nonnegative option) Finite o (λ v. finite_or v (Ieee.lt v zero64) _) e

pub accepted_passed : (s : Setup) → Accepted s → Passed s
unfolding validate check_problem check_common check_options check_limits
accepted_passed s e =
    let n = length s.x0 in
    let whole = both_passed (check_problem s) (check_common s then check_options s then check_limits s) e in
    let after = both_passed (check_common s) (check_options s then check_limits s) whole.1 in
    let last = both_passed (check_options s) (check_limits s) after.1 in
    let finite_at : ℕ → Check = λ i. when (not (finite (word s.x0 i))) (refuse 2 i 0) in
    let problem = both_passed (when (eqb n 0) (refuse 1 0 0)) (each_index n finite_at then given (check_bounds n) s.bounds) whole.0 in
    let points = both_passed (each_index n finite_at) (given (check_bounds n) s.bounds) problem.1 in
    let common = both_passed (given (positive 1) s.maxiter) (given (positive 2) s.maxfev then given (finite_positive 1) s.tol) after.0 in
    let common2 = both_passed (given (positive 2) s.maxfev) (given (finite_positive 1) s.tol) common.1 in
    let options = both_passed (given (finite_nonnegative 1) s.ftol) _ last.0 in
    let options2 = both_passed (given (finite_nonnegative 2) s.gtol) _ options.1 in
    let options3 = both_passed (given (positive 3) s.maxcor) (given (finite_positive 2) s.eps) options2.1 in
    let limits = both_passed (at_most most_coordinates 1 n) _ last.1 in
    let limits2 = both_passed (given (at_most most_pairs 2) s.maxcor) _ limits.1 in
    let limits3 = both_passed (given (at_most most_budget 3) s.maxiter) (given (at_most most_budget 4) s.maxfev) limits2.1 in
    record {
      size = (above_zero n _ problem.0, most most_coordinates 1 n limits.0);
      x0 =
          each_of Finite s.x0 nan
          (λ i h. not-false (finite (word s.x0 i)) (test_failed (not (finite (word s.x0 i))) _ (each_passed n finite_at points.0 i h)));
      bounds = given_passed (check_bounds n) _ s.bounds (box n) points.1;
      maxiter = count_passed most_budget 1 3 s.maxiter common.0 limits3.0;
      maxfev = count_passed most_budget 2 4 s.maxfev common2.0 limits3.1;
      maxcor = count_passed most_pairs 3 2 s.maxcor options3.0 limits2.0;
      tol = finite_passed 1 s.tol common2.1;
      ftol = nonnegative_passed 1 s.ftol options.0;
      gtol = nonnegative_passed 2 s.gtol options2.0;
      eps = finite_passed 2 s.eps options3.1;
    }
  where
    box : (n : ℕ) (b : Bounds) → check_bounds n b ≡ None → Sides n b
    box n b e =
        let p = both_passed (check_side n b.lower) (check_side n b.upper then each_index n (check_pair b)) e in
        let q = both_passed (check_side n b.upper) (each_index n (check_pair b)) p.1 in
        record {
          lower = side_passed n b.lower p.0;
          upper = side_passed n b.upper q.0;
          ordered = λ i l.
              let low = word b.lower i in
              let high = word b.upper i in
              test_failed (Ieee.lt high low) _ (both_passed (when (Ieee.lt high low) (refuse 5 i 0)) _ (each_passed n (check_pair b) q.1 i l)).0;
        }

-- ---- what applies

count_applies : (limit default : ℕ) (o : Option ℕ) → Count limit default → Given (Count limit) o → Count limit (or_else o default)
count_applies limit default None d h = d
count_applies limit default (Some k) d h = h

box_lengths :
    (n : ℕ) (o : Option Bounds) → Given (Sides n) o
    → (length (or_else o (open_bounds n)).lower ≡ n) × (length (or_else o (open_bounds n)).upper ≡ n)
box_lengths n None h = (length-tab n _, length-tab n _)
box_lengths n (Some b) h = (h.lower.size, h.upper.size)

pub accepted_in_limits : (s : Setup) → Accepted s → InLimits s
accepted_in_limits s a =
    let p = accepted_passed s a in
    let box = box_lengths (dimension s) s.bounds p.bounds in
    record {
      coordinates = p.size;
      pairs = count_applies most_pairs 10 s.maxcor (omega arith, omega arith) p.maxcor;
      maxiter = count_applies most_budget 15_000 s.maxiter (omega arith, omega arith) p.maxiter;
      maxfev = count_applies most_budget 15_000 s.maxfev (omega arith, omega arith) p.maxfev;
      lower = box.0;
      upper = box.1;
    }
