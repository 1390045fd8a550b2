-- `cauchy::generalized_cauchy` meets its contract: the path is on its way from its start. Assumes nothing.
use mathlib.Core.Path.{◌≡◌, ◌∙◌}
use Prim.Native.Nat.{suc, ◌+◌, ◌-◌}
use native.Mathlib.Omega.{arith}
use Rattle.area.proofs.Laws.{scratch_trans}
use Rattle.compact.proofs.Models.{prepared_kept}
use Rattle.cauchy.proofs.Segments.{walking_more, walking_ends, walking_stops, walks}
use Rattle.cauchy.proofs.generalized_cauchy.Goals as goal

pub segment-requires : goal.segment-requires
segment-requires c =
    let l = c.loop.invariant in
    let start = c.begin-path.ensures in (
      rw (l.long ∙ c.begin-path.auto.area) c.requires.0,
      prepared_kept _ (scratch_trans start.kept l.way.kept).high c.requires.1,
      rw (l.way.breaks, start.breaks) c.find_breaks-breaks.ensures.listed,
    )

pub returns-in-Break : goal.returns-in-Break
returns-in-Break c =
    let n = c.args.model.now.shape.n in
    let one : n + 2 - c.loop.counter ≡ suc (n + 2 - (c.loop.counter + 1)) = omega arith in
    let way = c.loop.invariant.way in
    walks _ _ c.find_breaks-breaks.ensures c.begin-path.ensures (walking_ends way (rw way.breaks at c.segment.ensures) _ one _ c.in-Break.is)

pub loop-preserved : goal.loop-preserved
loop-preserved c =
    let n = c.args.model.now.shape.n in
    let one : n + 2 - c.loop.counter ≡ suc (n + 2 - (c.loop.counter + 1)) = omega arith in
    let way = c.loop.invariant.way in
    record {
      way = walking_more way (rw way.breaks at c.segment.ensures) _ one _ c.in-Continue.is;
      long = c.segment.auto.area ∙ c.loop.invariant.long;
    }

pub returns : goal.returns
returns c =
    walks _ _ c.find_breaks-breaks.ensures c.begin-path.ensures (walking_stops c.loop.invariant.way (omega arith))
