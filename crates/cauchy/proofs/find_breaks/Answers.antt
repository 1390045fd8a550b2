-- `cauchy::find_breaks` meets its contract: b holds the breaks of the first i coordinates. Assumes nothing.
use mathlib.Core.Path.{ap, ◌∙◌}
use Rattle.cauchy.specs.State.{break_time_of}
use Rattle.cauchy.proofs.Order.{finding_none, finding_more, finding_ordered, finding_done}
use Rattle.cauchy.proofs.find_breaks.Goals as goal

pub loop-i-init : goal.loop-i-init
loop-i-init c = finding_none c.new-breaks.ensures.0 c.new-breaks.ensures.1

pub keep-requires : goal.keep-requires
keep-requires c = finding_ordered c.loop-i.invariant c.loop-i-test.true c.requires.1

pub loop-i-preserved : goal.loop-i-preserved
loop-i-preserved c =
    finding_more _ c.loop-i.invariant c.loop-i-test.true (c.break_time.ensures ∙ ap break_time_of c.coordinate_at.ensures) c.keep.ensures

pub returns : goal.returns
returns c = finding_done c.loop-i.invariant c.loop-i-test.false c.requires.1
