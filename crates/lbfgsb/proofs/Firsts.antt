-- The first words of an output (`first_of`): as many as the number says, and the output's own where it has so many. Assumes nothing.
use Prim.Native.Nat.{ℕ, zero, suc, ◌≤◌}
use native.Mathlib.Omega.{arith}
use mathlib.Core.Path.{◌≡◌, refl, ap}
use mathlib.Core.List.{List, [], ◌∷◌}
use lib.ListN.{length, take}
use Rattle.lbfgsb.specs.Bridge.{first_of}

pub first_long : (k : ℕ) (out : List ℕ) → length (first_of k out) ≡ k
first_long zero out = refl
first_long (suc k) [] = ap suc (first_long k [])
first_long (suc k) (x ∷ out) = ap suc (first_long k out)

pub first_taken : (k : ℕ) (out : List ℕ) → k ≤ length out → first_of k out ≡ take k out
first_taken zero out h = refl
first_taken (suc k) [] h = absurd (omega (arith, h))
first_taken (suc k) (x ∷ out) h = ap (λ (r : List ℕ). x ∷ r) (first_taken k out (omega (arith, h)))
