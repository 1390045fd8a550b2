-- `cauchy::still` meets its contract: `all` goes over the words as the definition does. Assumes nothing.
use mathlib.Core.Path.{◌∙◌}
use native.Mathlib.Omega.{arith}
use Rattle.std.proofs.Common.{rules}
use Rattle.std.proofs.lemmas.Iterator.{YieldsList-from_slice}
use Rattle.std.proofs.lemmas.Iterator.Search.{all_from_yields_List}
use Rattle.float.proofs.Constants.{zero_is}
use Rattle.cauchy.proofs.Paths.{is_zero, still_all}
use Rattle.cauchy.proofs.still.Goals as goal

pub returns : goal.returns
returns c =
    all_from_yields_List is_zero _ _ _ c.all.ensures.ran (YieldsList-from_slice _ c.iter.ensures.rest) (λ x b q k. search (rules, zero_is))
    ∙ still_all c.args.area.now c.args.n (omega arith)
