-- `opening::first_vectors` meets its contract. Assumes nothing.
use lib.Ieee.{of_bits}
use Rattle.area.specs.Area.{view}
use Rattle.opening.proofs.Laws.{first_made}
use Rattle.opening.proofs.first_vectors.Goals as goal

pub returns : goal.returns
unfolding of_bits
returns c =
    let a = c.args in
    first_made a.n (view a.area.now a.n) c.clip_start.ensures c.copy.ensures c.fill.ensures c.fill-2.ensures
    c.fill-3.ensures
