-- `subspace::empty_sums` meets its contract: every entry of the grid becomes -0. Assumes nothing.
use mathlib.Core.Path.{refl, ◌∙◌}
use lib.Ieee.{of_bits}
use Rattle.definition.specs.Number.{neg_zero}
use Rattle.std.proofs.Common.{rules}
use Rattle.subspace.proofs.Grid.{empty_sums_are}
use Rattle.subspace.proofs.empty_sums.Goals as goal

pub returns : goal.returns
unfolding of_bits
returns c =
    c.change_each.ensures (λ i j x. neg_zero) (λ i j x y h l p. search rules)
    ∙ empty_sums_are c.args.size _ c.requires refl
