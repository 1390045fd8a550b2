-- `report::read_full`: a read adds what came behind what had been read. Assumes nothing.
use Rattle.std.proofs.Common.{◌-◌, length, sym, subst, rules}
use Rattle.std.specs.Io.KnownBytes.{Consumes}
use Rattle.std.proofs.KnownBytes.{Consumes-trans}
use Rattle.report.proofs.Laws.{filled}
use Rattle.report.proofs.read_full.Goals as goal

pub loop-size-preserved : goal.loop-size-preserved
loop-size-preserved g c =
    let before = c.loop-size.invariant in
    let came = c.in_ok-count.ensures in
    let room = length c.loop-size.buffer - c.loop-size.size in
    let all = filled c.loop-size.buffer c.read.new.buf c.loop-size.size room c.in_ok-count.count before.0 came.bound.0 in
    (search rules, subst (Consumes _ _) (sym all) (Consumes-trans _ _ _ _ _ before.1 came.bytes.0))
