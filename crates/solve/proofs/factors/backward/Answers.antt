-- `factors::backward` meets its contract; in its loop the places from i on are known. Assumes nothing.
use mathlib.Core.Path.{◌≡◌, ap, ◌∙◌}
use Prim.Native.Nat.{ℕ, ◌-◌, ◌+◌}
use native.Mathlib.Omega.{arith}
use lib.Ieee.{of_bits}
use lib.ListN.{length}
use Rattle.definition.specs.Solve.{system, back_row, backward}
use Rattle.area.proofs.Laws.{looped_none, looped_more, looped_done}
use Rattle.solve.proofs.factors.backward.Goals as goal

pub loop-i-init : goal.loop-i-init
unfolding of_bits
loop-i-init c =
    let e : c.args.n - c.args.n ≡ 0 = omega arith in
    let l : length c.args.right ≡ 32 = search arith in
    rw (e, l) looped_none

pub loop-i-preserved : goal.loop-i-preserved
loop-i-preserved c =
    let a = c.args in
    let i = c.loop-i.i in
    let e : a.n - (i - 1) ≡ a.n - i + 1 = omega arith in
    let p : i - 1 ≡ a.n - (a.n - i + 1) = omega arith in
    rw e
    (looped_more c.loop-i.invariant (omega arith)
    (c.back_row.ensures ∙ ap (λ (j : ℕ). back_row a.n (system a.matrix.now a.right) j c.loop-i.x) p))

pub returns : goal.returns
unfolding backward
returns c = looped_done c.loop-i.invariant (omega arith)
