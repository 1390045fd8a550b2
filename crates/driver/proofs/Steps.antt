-- Laws of a reply: the definition's answer to a gradient, and whether a reply is due. Assumes nothing.
use Prim.Native.Nat.{ℕ}
use native.Mathlib.Omega.{arith}
use mathlib.Core.Path.{◌≡◌, refl, ap₂, ◌∙◌}
use mathlib.Core.Bool.{Bool, true, false, not}
use mathlib.Core.List.{List, map}
use Rattle.std.specs.Prelude.{None}
use borrow.Author.Tests.{eqb-true, eq-eqb}
use lib.ListN.{length}
use Rattle.definition.specs.Number.{to_float}
use Rattle.definition.specs.Problem.{Check, refuse, when, ◌then◌}
use Rattle.definition.specs.Machine as M
use Rattle.definition.specs.Driver as D
use Rattle.definition.specs.Driver.{on_gradient}
use Rattle.area.specs.Area.{Vecs}
use Rattle.problem.specs.Setups.{check_of}
use Rattle.std.specs.Prelude.{Result}
use Rattle.problem.specs.declared.Refusal.{Refusal}
use Rattle.fit.specs.declared.Fit.{Fit}
use Rattle.fit.specs.State.{machine}
use Rattle.driver.specs.declared.Reply.{Reply}
use Rattle.driver.specs.declared.Reply.TheVariants as R
use Rattle.driver.specs.Replies.{supplied_in, replied, advanced}

-- ---- the definition's answer

-- to a gradient whose floats have been put at the trial's
pub gradient_answered : (m : M.Machine) (ws : List ℕ) → M.takes m (M.Reply.gradient ws) ≡ true
    → advanced R.Gradient (D.with_gradient (map to_float ws) m) ≡ D.answer m (M.Reply.gradient ws)
unfolding on_gradient
gradient_answered m ws h = go m.phase (eqb-true _ _ h)
  where
    go : (p : M.Phase) → M.kind_of p ≡ 2 → supplied_in p (D.with_gradient (map to_float ws) m) ≡ D.answer_in p m (M.Reply.gradient ws)
    go (M.Phase.value w) e = absurd (omega arith)
    go (M.Phase.gradient w) e = refl
    go (M.Phase.probe w i d) e = absurd (omega arith)
    go M.Phase.notice e = absurd (omega arith)
    go (M.Phase.ended z) e = absurd (omega arith)

-- ---- whether a reply is due

-- the words of a gradient say nothing of its kind
pub suits_any : (k : ℕ) (r : Reply) (ws zs : List ℕ) → M.suits k (replied r ws) ≡ M.suits k (replied r zs)
suits_any k (R.Value v) ws zs = refl
suits_any k R.Gradient ws zs = refl
suits_any k R.NotSupplied ws zs = refl
suits_any k R.GoOn ws zs = refl
suits_any k R.Stop ws zs = refl
suits_any k R.Failure ws zs = refl

-- n words are not refused by 14
pub right_length : (n : ℕ) (r : Reply) (ws : List ℕ) → length ws ≡ n → M.check_length n (replied r ws) ≡ None
right_length n (R.Value v) ws e = refl
right_length n R.Gradient ws e = rw (eq-eqb (length ws) n e)
right_length n R.NotSupplied ws e = refl
right_length n R.GoOn ws e = refl
right_length n R.Stop ws e = refl
right_length n R.Failure ws e = refl

-- the kind decides
pub due_by_kind : (m : M.Machine) (r : Reply) (ws : List ℕ) → length ws ≡ m.terms.n → M.takes m (replied r ws) ≡ true → M.check_due m (replied r ws) ≡ None
due_by_kind m r ws e h = rw (h, right_length m.terms.n r ws e)

-- what `check_due` says of n words, for any vectors
abbrev pub DueSaid : Fit → Reply → Result Unit Refusal → Type 0
DueSaid t r c = (v : Vecs) (ws : List ℕ) → length ws ≡ t.shape.n → check_of c ≡ M.check_due (machine t v) (replied r ws)

kind_then : (b : Bool) (k : Check) → ((when (not b) (refuse 13 0 0) then None) then k) ≡ (when (not b) (refuse 13 0 0) then k)
kind_then true k = refl
kind_then false k = refl

-- a gradient of other words is refused by 13 where one of n words is, and else by its length
pub due_then : (m : M.Machine) (r : Reply) (ws zs : List ℕ) → length zs ≡ m.terms.n
    → (M.check_due m (replied r zs) then M.check_length m.terms.n (replied r ws)) ≡ M.check_due m (replied r ws)
due_then m r ws zs e =
    let rest = M.check_length m.terms.n (replied r ws) in
    ap₂ (λ (b : Bool) (k : Check). (when (not b) (refuse 13 0 0) then k) then rest)
    (suits_any (M.kind_of m.phase) r zs ws) (right_length m.terms.n r zs e)
    ∙ kind_then (M.takes m (replied r ws)) rest
