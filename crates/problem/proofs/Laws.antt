-- A row of checks that is refused once stays refused. Assumes nothing.
use mathlib.Core.Path.{◌≡◌, sym}
use mathlib.Core.Logic.{⊎_elim}
use Rattle.std.specs.Prelude.{None, Some}
use Prim.Native.Nat.{ℕ, zero, suc, ◌<◌}
use native.Mathlib.Nat.{le_of_suc-le-suc, eq-or-lt_of_le}
use native.Mathlib.Omega.{arith}
use Rattle.definition.specs.Vector.{fold_to}
use Rattle.definition.specs.Problem.{Refusal, Check, each_index}

-- Once refused, the row stays refused: the first refusal is its answer.
pub each_refused : (check : ℕ → Check) (n : ℕ) {i : ℕ} {r : Refusal} → each_index i check ≡ None → i < n → check i ≡ Some r → Some r ≡ each_index n check
unfolding fold_to
each_refused check zero h l e = absurd (omega arith)
each_refused check (suc n) {i} h l e =
    ⊎_elim
    (λ (q : i ≡ n). rw (← q) (simp (h, e)))
    (λ (q : i < n). simp (sym (each_refused check n h q e)))
    (eq-or-lt_of_le (le_of_suc-le-suc l))
