-- `compact::product` meets its contract: the weights, then theta times the vector less the columns, if that is finite. Assumes nothing.
use Rattle.compact.proofs.Columns.{no_product, with_product}
use Rattle.compact.proofs.product.Goals as goal

pub returns-in_default : goal.returns-in_default
returns-in_default c = no_product _ _ _ _ _ c.in_default.ensures

pub returns : goal.returns
returns c = with_product _ _ _ _ _ _ _ _ c.in-Some.ensures c.less_columns.ensures c.all_finite.ensures
