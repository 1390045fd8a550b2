-- `record::check_start` meets its contract. Assumes nothing.
use Rattle.std.proofs.Common.{sym, arith}
use Rattle.definition.proofs.Accepted.{accepted_in_limits}
use Rattle.problem.specs.Setups.{setup_of}
use Rattle.record.proofs.check_start.Goals as goal

pub words-needed-requires : goal.words-needed-requires
words-needed-requires c =
    let h = accepted_in_limits (setup_of c.args.setup) (sym c.in_ok-validate.ensures) in
    (omega (arith, h.coordinates.1), omega (arith, c.places.ensures, h.pairs.1))
