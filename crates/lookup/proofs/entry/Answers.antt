-- `lookup::entry` meets its contract; in its loop i entries are skipped. Assumes nothing.
use mathlib.Core.Path.{◌∙◌}
use Rattle.lookup.proofs.Entries.{skipped_more, skipped_end, skipped_done}
use Rattle.lookup.proofs.entry.Goals as goal

pub returns-then-is_empty : goal.returns-then-is_empty
returns-then-is_empty c = skipped_end c.loop.invariant _ c.loop-test.true c.front_entry-front.ensures c.if-is_empty.ensures

pub loop-preserved : goal.loop-preserved
loop-preserved c = skipped_more c.loop.invariant _ c.loop-test.true c.front_entry-front.ensures c.if-is_empty.ensures

pub returns : goal.returns
returns c = c.front_entry.ensures ∙ skipped_done c.loop.invariant c.loop-test.false
