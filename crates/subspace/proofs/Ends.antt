-- Laws of the end of the direction: both ends, the array that their difference fills, and the direction that is stored. Assumes nothing.
use mathlib.Core.Path.{◌≡◌, ap, ◌∙◌}
use mathlib.Core.Bool.{Bool, true, false, cond}
use mathlib.Core.List.{List}
use Rattle.std.specs.Prelude.{Option, None, Some}
use Prim.Native.Nat.{ℕ, ◌+◌, ◌-◌, ◌*◌, ◌≤◌}
use native.Mathlib.Omega.{arith}
use lib.ListN.{length, take, drop, replicate}
use lib.Seq.{take_all, take-append-le}
use lib.Ieee as Ieee
use lib.Ieee.{Float}
use Rattle.definition.specs.Number.{minus, zero64}
use Rattle.definition.specs.Vector.{word, dot, difference, ◌and_then◌}
use Rattle.definition.specs.Problem.{most_coordinates}
use Rattle.definition.specs.Driver.{Ends}
use Rattle.area.specs.Area.{Vecs, view, upd, difference_of, first_pair, vector_x, vector_g, vector_direction, vector_cauchy, vector_target}
use Rattle.area.proofs.Laws.{part_lent, length-view}
use Rattle.compact.proofs.Laws.{tab-length, upd_twice}
use Rattle.subspace.specs.State.{Minimizes, ends_in, difference_array, direction_array, directed}

-- both ends, where there is a minimum
abbrev pub both_ends : List Float → Option (List Float) → Option Ends
both_ends p o = o and_then λ q. Some (record { cauchy = p; target = q })

pub both_ends_lem : {F : Option (List Float)} {a b : Vecs} {ok : Bool} → Minimizes F a ok b → cond ok (Some (ends_in b)) None ≡ both_ends (a vector_cauchy) F
both_ends_lem {a = a} {b = b} {ok = true} m = (λ k. Some (record { cauchy = m.cauchy k; target = b vector_target })) ∙ ap (both_ends (a vector_cauchy)) m.is
both_ends_lem {a = a} {ok = false} m = ap (both_ends (a vector_cauchy)) m.is

-- ---- the direction

-- the part of the area that is vector p
abbrev lent : List Float → ℕ → ℕ → List Float
lent a n p = take (p * n + n - p * n) (drop (p * n) a)

-- the end that is lent is one of two vectors
end_is : (t : Bool) (a : List Float) (n : ℕ) {e : List Float} → e ≡ cond t (lent a n vector_cauchy) (lent a n vector_target)
    → e ≡ cond t (view a n vector_cauchy) (view a n vector_target)
end_is true a n d = d ∙ part_lent a vector_cauchy n
end_is false a n d = d ∙ part_lent a vector_target n

pub end_long : (t : Bool) (a : List Float) (n : ℕ) {e : List Float} → first_pair * n ≤ length a
    → e ≡ cond t (lent a n vector_cauchy) (lent a n vector_target) → length e ≡ n
end_long true a n l d = ap length (d ∙ part_lent a vector_cauchy n) ∙ length-view a n vector_cauchy (omega arith)
end_long false a n l d = ap length (d ∙ part_lent a vector_target n) ∙ length-view a n vector_target (omega arith)

-- what the array holds, made of the slices that are lent
pub direction_is : (t : Bool) (a : List Float) (n : ℕ) {e w : List Float} → first_pair * n ≤ length a
    → e ≡ cond t (lent a n vector_cauchy) (lent a n vector_target) → w ≡ difference_array (length e) e (lent a n vector_x)
    → w ≡ difference_array n (cond t (view a n vector_cauchy) (view a n vector_target)) (view a n vector_x)
direction_is t a n l d r = r ∙ (λ k. difference_array (end_long t a n l d k) (end_is t a n d k) (part_lent a vector_x n k))

-- the words of the array that are stored
pub first_words : (n : ℕ) (p q : List Float) → take (n - 0) (drop 0 (difference_array n p q)) ≡ difference n p q
first_words n p q =
    let long = tab-length n (λ (i : ℕ). minus (word p i) (word q i)) in
    let whole : n - 0 ≡ n = omega arith in
    rw whole
    (take-append-le n (difference n p q) (replicate (most_coordinates - n) zero64) (omega (arith, long))
    ∙ take_all n (difference n p q) (omega (arith, long)))

-- the difference to the target, its slope, then the difference to the end that it chooses
pub directs : (n : ℕ) (a b : Vecs) {d : Vecs} {slope : Float} {w : List Float}
    → b ≡ difference_of n vector_direction vector_target vector_x a → slope ≡ dot n (b vector_g) (b vector_direction)
    → w ≡ direction_array n slope b → d ≡ upd b vector_direction (take (n - 0) (drop 0 w)) → (f : Float) → d ≡ directed n f a
unfolding difference_of
directs n a b {d} {slope} {w} p q r s f =
    let x = difference n (a vector_target) (a vector_x) in
    let slope-is : slope ≡ dot n (a vector_g) x = q ∙ (λ k. dot n (p k vector_g) (p k vector_direction)) in
    let end = cond (Ieee.le zero64 (dot n (a vector_g) x)) (a vector_cauchy) (a vector_target) in
    let array-is : w ≡ difference_array n end (a vector_x) = r ∙ (λ k. direction_array n (slope-is k) (p k)) in
    s
    ∙ (λ k. upd (p k) vector_direction (take (n - 0) (drop 0 (array-is k))))
    ∙ upd_twice a vector_direction x _
    ∙ ap (upd a vector_direction) (first_words n end (a vector_x))
