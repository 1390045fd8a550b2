-- The ends that the model offers, read off the vectors of the area.
use Rattle.std.specs.Prelude.{ℕ, ◌≤◌, ◌<◌, ◌≡◌, Bool, cond, Float}
use Rattle.std.specs.Prelude.{Option, None, Some}
use Rattle.definition.specs.Problem.{Terms}
use Rattle.definition.specs.Machine.{state}
use Rattle.definition.specs.Driver.{Ends, ends_of}
use Rattle.area.specs.Area.{Vecs, bounds_of, first_pair, first_column, FreeKept, vector_x, vector_g}
use Rattle.compact.specs.declared.Shape.{Shape}
use Rattle.compact.specs.State.{compact_of}
use Rattle.subspace.specs.State.{ends_in}

-- the ends that stand in their vectors, where there are any
abbrev pub ends_where : Bool → Vecs → Option Ends
ends_where ok v = cond ok (Some (ends_in v)) None

-- every vector is as it was: scratch and the columns apart
pub record MachineKept (h : Shape) (a b : Vecs) : Type 0 where
  pub low : (q : ℕ) → q < 8 → b q ≡ a q
  pub free : FreeKept a b
  pub pairs : (q : ℕ) → first_pair ≤ q → q < first_column h.m → b q ≡ a q

-- the ends of the model of a stand in their vectors of b; f is the value of the point held, which does not matter here
pub record Offers (h : Shape) (theta : Float) (a : Vecs) (ok : Bool) (b : Vecs) : Type 0 where
  pub is : (t : Terms) → t.n ≡ h.n → t.bounds ≡ bounds_of a → (f : Float)
      → ends_where ok b ≡ ends_of t (compact_of h theta a) (state (a vector_x) f (a vector_g))
  pub kept : MachineKept h a b
