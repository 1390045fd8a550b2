-- `cauchy::Path::stop_all` meets its contract: the path is on its way from where it was. Assumes nothing.
use mathlib.Core.Path.{◌∙◌}
use lib.ListN.{length-append}
use mathlib.Core.List.{◌∷◌, []}
use native.Mathlib.Omega.{arith}
use Rattle.std.proofs.lemmas.Iterator.{YieldsList-from_slice}
use Rattle.std.proofs.lemmas.Iterator.Consumers.{YieldsList-turn, YieldsList-end}
use Rattle.cauchy.proofs.Paths.{at_time, not_at_time, breaks_behind, entry_is, none_left, stopping_more, stopping_rest, stopping_past, stopped_event}
use Rattle.cauchy.proofs.Path.stop_all.Goals as goal

pub returns-then-entry-time : goal.returns-then-entry-time
returns-then-entry-time c =
    let s = c.args.self in
    let l = c.loop-entry in
    let left = breaks_behind s.event (YieldsList-from_slice _ c.iter.ensures.rest) c.skip-entry-items.ensures.source
    c.skip-entry-items.ensures.count c.into_iter-entry-iterator.ensures.into_iter_gives in
    let at = entry_is s.breaks.now s.event l.reached l.invariant.event
    (YieldsList-turn left l.yielded _ l.yielded_by _ _ _ c.in-Some.is c.next.ensures.steps) in
    stopping_rest c.requires.1 l.invariant.way at.0 at.1 (not_at_time _ _ c.if-entry-time.true)

pub loop-entry-preserved : goal.loop-entry-preserved
loop-entry-preserved c =
    let s = c.args.self in
    let l = c.loop-entry in
    let left = breaks_behind s.event (YieldsList-from_slice _ c.iter.ensures.rest) c.skip-entry-items.ensures.source
    c.skip-entry-items.ensures.count c.into_iter-entry-iterator.ensures.into_iter_gives in
    let at = entry_is s.breaks.now s.event l.reached l.invariant.event
    (YieldsList-turn left l.yielded _ l.yielded_by _ _ _ c.in-Some.is c.next.ensures.steps) in
    record {
      way = stopping_more c.requires.1 l.invariant.way at.0 at.1 (at_time _ _ c.if-entry-time.false) c.stop-reached.ensures;
      event = stopped_event c.stop-reached.ensures ∙ omega (arith, l.invariant.event, length-append l.yielded (c.in-Some.entry ∷ []));
      long = c.stop-reached.auto.area ∙ l.invariant.long;
    }

pub returns : goal.returns
returns c =
    let s = c.args.self in
    let l = c.loop-entry in
    let left = breaks_behind s.event (YieldsList-from_slice _ c.iter.ensures.rest) c.skip-entry-items.ensures.source
    c.skip-entry-items.ensures.count c.into_iter-entry-iterator.ensures.into_iter_gives in
    let all = YieldsList-end left l.yielded _ l.yielded_by _ _ c.in-None.is c.next.ensures.steps in
    stopping_past l.invariant.way (none_left s.breaks.now s.event l.reached c.requires.1 l.invariant.event all.1)
