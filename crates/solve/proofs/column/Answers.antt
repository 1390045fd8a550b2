-- `solve::column` meets its contract. Assumes nothing.
use mathlib.Core.Path.{sym, ◌∙◌}
use native.Mathlib.Omega.{arith}
use Rattle.solve.proofs.Steps.{rows_swapped, cleared, stuck}
use Rattle.solve.proofs.column.Goals as goal

pub returns-then-not-pivots : goal.returns-then-not-pivots
returns-then-not-pivots c =
    let a = c.args in
    let moved = c.swap.ensures.after ∙ rows_swapped a.matrix.now a.k c.pivot-row.result (omega arith) (omega arith) in
    stuck a.n a.scale a.k a.matrix.now c.pivot-row.ensures.1 moved _ (sym c.pivots.ensures ∙ c.if-not-pivots.true)

pub returns : goal.returns
returns c =
    let a = c.args in
    let moved = c.swap.ensures.after ∙ rows_swapped a.matrix.now a.k c.pivot-row.result (omega arith) (omega arith) in
    cleared a.n a.scale a.k a.matrix.now c.pivot-row.ensures.1 moved c.pivot-row.ensures.0
    (sym c.pivots.ensures ∙ c.if-not-pivots.false) c.eliminate-multipliers.ensures
