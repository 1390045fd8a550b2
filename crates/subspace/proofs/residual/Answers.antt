-- `subspace::residual` meets its contract: the difference, its product, and the gradient added. Assumes nothing.
use mathlib.Core.Bool.{not}
use mathlib.Core.Path.{ap}
use native.Mathlib.Omega.{arith}
use borrow.Author.Rules.{rules}
use Rattle.subspace.proofs.Makes.{prepared_differenced, no_residual, a_residual}
use Rattle.subspace.proofs.residual.Goals as goal

pub product-requires : goal.product-requires
product-requires c =
    (search rules, prepared_differenced _ _ c.difference.ensures c.requires.1, omega arith, omega arith)

pub returns-then-not-product : goal.returns-then-not-product
returns-then-not-product c =
    no_residual _ _ _ _ _ _ c.difference.ensures c.product.ensures (ap not c.if-not-product.true)

pub returns : goal.returns
returns c =
    a_residual _ _ _ _ _ _ _ c.difference.ensures c.product.ensures (ap not c.if-not-product.false) c.add_gradient.ensures
