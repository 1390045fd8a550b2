-- Where things stand in the area, for all n and m: the vectors within it, and what is left behind them. Assumes nothing.
use mathlib.Core.Path.{◌≡◌}
use Prim.Native.Nat.{ℕ, ◌+◌, ◌*◌, ◌≤◌, ◌<◌}
use native.Mathlib.Omega.{arith}
use Rattle.definition.specs.Problem.{area_words}
use Rattle.area.specs.Area.{vectors}
use Rattle.area.proofs.Laws.{room}

pub behind : (n m : ℕ) → vectors m * n + (4 * m * m + 4 * m) ≡ area_words n m
behind n m = omega arith

pub within : (n m k : ℕ) → k < vectors m → k * n + n ≤ area_words n m
within n m k h = room k (vectors m) n (area_words n m) h (omega (arith, behind n m))
