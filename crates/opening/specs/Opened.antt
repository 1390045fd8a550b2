-- The opening: a setup stands in the options of a fit and three vectors of its area, and the fit is at its first question.
use Rattle.std.specs.Prelude.{ℕ, ◌*◌, ◌≤◌, ◌<◌, ◌≡◌, Bool, true, false, List, length, Float}
use Rattle.definition.specs.Number.{zero64}
use Rattle.definition.specs.Vector.{tab, word, zeros}
use Rattle.definition.specs.Problem as P
use Rattle.definition.specs.Compact.{no_pairs}
use Rattle.definition.specs.Counters.{first_counters}
use Rattle.definition.specs.Machine as M
use Rattle.definition.specs.Driver as D
use Rattle.area.specs.Area.{Vecs, view, upd, vectors, FreeKept}
use Rattle.area.specs.Area.{vector_x, vector_g, vector_lower, vector_upper, vector_x0, vector_trial, vector_trial_gradient, vector_direction}
use Rattle.problem.specs.declared.Options.{Options}
use Rattle.problem.specs.Setups.{setup_in, bounds_in, places_in, limits_in, scheme_of, box_of}
use Rattle.compact.specs.declared.Shape.{Shape}
use Rattle.compact.specs.State.{Sound}
use Rattle.search.specs.State.{Settled}
use Rattle.fit.specs.State.{machine, machine_of}
use Rattle.fit.specs.declared.Fit.{Fit}

-- the setup that options and vectors hold
abbrev pub setup_at : Options → Vecs → P.Setup
setup_at options v = setup_in options (v vector_x0) (v vector_lower) (v vector_upper)

-- room for n coordinates and the pairs that the options allow
pub record Room (options : Options) (n size : ℕ) : Type 0 where
  pub all : vectors (places_in options) * n ≤ size
  pub few : places_in options ≤ P.most_pairs
  pub some : 0 < places_in options

-- the bounds are as long as the start, where they count
pub record Fits (options : Options) (n : ℕ) (l u : List Float) : Type 0 where
  pub lower : options.bounded ≡ true → length l ≡ n
  pub upper : options.bounded ≡ true → length u ≡ n

-- ---- the vectors

-- infinite bounds, where there are none
abbrev pub boxed : Bool → ℕ → Vecs → Vecs
boxed true n v = v
boxed false n v = upd (upd v vector_lower (P.open_bounds n).lower) vector_upper (P.open_bounds n).upper

-- the start, brought into the box
abbrev pub clipped : ℕ → Vecs → List Float
clipped n v = tab n (λ i. P.in_box (box_of (v vector_lower) (v vector_upper)) i (word (v vector_x0) i))

-- a setup's start and bounds stand in the vectors v, which were a
pub record Stored (bounded : Bool) (x0 lower upper : List Float) (a v : Vecs) : Type 0 where
  pub start : v vector_x0 ≡ x0
  pub bounds : bounds_in bounded (v vector_lower) (v vector_upper) ≡ bounds_in bounded lower upper
  pub free : FreeKept a v

-- every vector that is read before it is next written
abbrev pub first_vectors : ℕ → Vecs → Vecs
first_vectors n v =
    upd (upd (upd (upd (upd v vector_x (clipped n v)) vector_trial (clipped n v)) vector_g (zeros n)) vector_trial_gradient (zeros n))
    vector_direction (zeros n)

-- ---- the state at the first question

abbrev pub first_shape : Options → ℕ → Shape
first_shape options n = record { n = n; m = places_in options; pairs = 0; oldest = 0 }

-- the machine at the first question, its vectors as they stand
abbrev pub first_machine : Options → ℕ → Vecs → M.Machine
first_machine options n v = record {
  terms = record { n = n; bounds = box_of (v vector_lower) (v vector_upper); maxcor = places_in options; eps = options.eps; scheme = scheme_of options.scheme };
  limits = limits_in options;
  held = M.state (v vector_x) zero64 (v vector_g);
  compact = no_pairs;
  trial = M.state (v vector_trial) zero64 (v vector_trial_gradient);
  direction = v vector_direction;
  search = D.no_search;
  right_value = zero64;
  before = zero64;
  counters = first_counters;
  phase = M.Phase.value M.Place.start;
}

pub record First (o : Options) (n : ℕ) (fit : Fit) : Type 0 where
  pub options : fit.options ≡ o
  pub entries : fit.extra.entries ≡ 0
  pub words : fit.extra.words ≡ 0
  pub shape : fit.shape ≡ first_shape o n
  pub settled : Settled fit.search
  pub is : (v : Vecs) → machine fit v ≡ first_machine o n v

-- the fit with the area `after`, which was `before`, is the machine that the setup s begins with, and s can be read off them again
pub record Opened (o : Options) (k : ℕ) (s : P.Setup) (before : List Float) (fit : Fit) (after : List Float) : Type 0 where
  pub options : fit.options ≡ o
  pub entries : fit.extra.entries ≡ 0
  pub words : fit.extra.words ≡ 0
  pub n : fit.shape.n ≡ k
  pub m : fit.shape.m ≡ places_in o
  pub long : length after ≡ length before
  pub sound : Sound fit.shape (length after)
  pub settled : Settled fit.search
  pub setup : setup_at o (view after k) ≡ s
  pub free : FreeKept (view before k) (view after k)
  pub is : machine_of fit after ≡ D.begin s
