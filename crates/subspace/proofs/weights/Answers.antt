-- `subspace::weights` meets its contract. Assumes nothing.
use mathlib.Core.Path.{sym, ◌∙◌}
use Prim.Native.Nat.{◌*◌}
use Rattle.definition.specs.Solve.{solve}
use Rattle.area.specs.Area.{view}
use Rattle.compact.proofs.Laws.{pairs_count}
use Rattle.subspace.proofs.weights.Goals as goal

pub returns : goal.returns
returns c =
    let h = c.args.model.now.shape in
    let v = view c.args.area.now h.n in
    c.solve.ensures ∙ (λ k. solve (2 * sym (pairs_count h v) k) (c.reduced.ensures k) (c.reduced_right.ensures k))
