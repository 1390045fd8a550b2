-- `differences::on_not_supplied` meets its contract: the gradient is 0, and coordinate 0 follows. Assumes nothing.
use lib.Ieee.{of_bits}
use Rattle.differences.proofs.Laws.{gradient_put}
use Rattle.differences.proofs.Leads.{leads_settled}
use Rattle.differences.proofs.on_not_supplied.Goals as goal

pub returns : goal.returns
unfolding of_bits
returns c =
    gradient_put _ (leads_settled _ c.probe_from-next.ensures c.numbers_of.ensures.0 c.settle.ensures) c.fill.ensures
