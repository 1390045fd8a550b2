-- The definition's machine, read off a fit and the vectors of its area.
use Rattle.std.specs.Prelude.{ℕ, ◌+◌, ◌^◌, ◌≡◌, List, Float}
use Rattle.std.specs.Prelude.{Option, None, Some}
use Rattle.definition.specs.Problem as P
use Rattle.definition.specs.Compact as C
use Rattle.definition.specs.Machine as M
use Rattle.problem.specs.Setups.{scheme_of, limits_of}
use Rattle.counters.specs.Counts.{counters_of, termination_of}
use Rattle.search.specs.State.{search_of, Settled}
use Rattle.compact.specs.State.{pairs_of, Sound}
use Rattle.area.specs.Area.{Vecs, view, Saved, vector_x, vector_g, vector_lower, vector_upper, vector_trial, vector_trial_gradient, vector_direction}
use Rattle.fit.specs.declared.Extra.{Extra}
use Rattle.fit.specs.declared.Fit.{Fit}
use Rattle.fit.specs.declared.Place.{Place}
use Rattle.fit.specs.declared.Place.TheVariants as W
use Rattle.fit.specs.declared.Side.{Side}
use Rattle.fit.specs.declared.Side.TheVariants.{Right, Left}
use Rattle.fit.specs.declared.Kind.{Kind}
use Rattle.fit.specs.declared.Kind.TheVariants as K
use Rattle.fit.specs.declared.Phase.{Phase}
use Rattle.fit.specs.declared.Phase.TheVariants.{Value, Gradient, Probe, Notice, Ended}

abbrev pub place_of : Place → M.Place
place_of W.Start = M.Place.start
place_of W.Trial = M.Place.trial

abbrev pub side_of : Side → M.Side
side_of Right = M.Side.right
side_of Left = M.Side.left

abbrev pub phase_of : Phase → M.Phase
phase_of (Value w) = M.Phase.value (place_of w)
phase_of (Gradient w) = M.Phase.gradient (place_of w)
phase_of (Probe w i s) = M.Phase.probe (place_of w) i (side_of s)
phase_of Notice = M.Phase.notice
phase_of (Ended t) = M.Phase.ended (termination_of t)

-- the number of a question's kind, 0 where nothing is asked
abbrev pub kind_number : Option Kind → ℕ
kind_number None = 0
kind_number (Some K.Value) = 1
kind_number (Some K.Gradient) = 2
kind_number (Some K.Notice) = 3

abbrev pub terms_of : Fit → Vecs → P.Terms
terms_of t v = record {
  n = t.shape.n;
  bounds = record { lower = v vector_lower; upper = v vector_upper };
  maxcor = t.shape.m;
  eps = t.options.eps;
  scheme = scheme_of t.options.scheme;
}

-- the pairs apart: they stand in slots that are computed
abbrev pub machine_with : List C.Pair → Fit → Vecs → M.Machine
machine_with ps t v = record {
  terms = terms_of t v;
  limits = limits_of t.limits;
  held = record { x = v vector_x; f = t.value; g = v vector_g };
  compact = record { pairs = ps; theta = t.theta; oldest = t.shape.oldest };
  trial = record { x = v vector_trial; f = t.trial_value; g = v vector_trial_gradient };
  direction = v vector_direction;
  search = search_of t.search;
  right_value = t.right_value;
  before = t.value_before;
  counters = counters_of t.counters;
  phase = phase_of t.phase;
}

abbrev pub machine : Fit → Vecs → M.Machine
machine t v = machine_with (pairs_of t.shape v) t v

abbrev pub machine_of : Fit → List Float → M.Machine
machine_of t a = machine t (view a t.shape.n)

-- what is not the machine's stays: the options as given, the log's numbers, and 0 for an absent high end
pub record Kept (t r : Fit) : Type 0 where
  pub options : r.options ≡ t.options
  pub extra : r.extra ≡ t.extra
  pub settled : Settled t.search → Settled r.search

-- r is t taken through F, whatever the area holds
pub record Turns (F : M.Machine → M.Machine) (t r : Fit) : Type 0 where
  pub shape : r.shape ≡ t.shape
  pub kept : Kept t r
  pub is : (v : Vecs) → machine r v ≡ F (machine t v)

-- r with the area b is t with the area a taken through F
pub record Steps (F : M.Machine → M.Machine) (t : Fit) (a : List Float) (r : Fit) (b : List Float) : Type 0 where
  pub n : r.shape.n ≡ t.shape.n
  pub m : r.shape.m ≡ t.shape.m
  pub sound : (size : ℕ) → Sound t.shape size → Sound r.shape size
  pub kept : Kept t r
  pub saved : Saved (view a t.shape.n) (view b t.shape.n)
  pub is : machine_of r b ≡ F (machine_of t a)

abbrev pub with_phase : Phase → Fit → Fit
with_phase p t = record t { phase = p }

-- the log's numbers are not near where a sum would wrap
abbrev pub most_words : ℕ
most_words = 2 ^ 56

-- how many numbers a usize has
abbrev pub usizes : ℕ
usizes = 2 ^ 64

-- one more entry kept, of l words
abbrev pub more_kept : Extra → ℕ → Extra
more_kept x l = record { entries = x.entries + 1; words = x.words + l }

abbrev pub with_extra : Extra → Fit → Fit
with_extra x t = record t { extra = x }
