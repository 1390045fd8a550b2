-- `replay::after_probes` meets its contract: nothing moves, or some entries are taken from the probe that is asked. Assumes nothing.
use mathlib.Core.Path.{◌≡◌, sym}
use native.Mathlib.Omega.{arith}
use lib.ListN.{length}
use mathlib.Core.Bool.{true}
use Rattle.held.specs.Test.{is_ready}
use Rattle.held.proofs.Test.{ready_facts}
use Rattle.replay.specs.Taken.{Run}
use Rattle.replay.proofs.Runs.{at_probe, probe_below, run_first, run_given, run_ready, run_more, run_words, counts_fit}
use Rattle.replay.proofs.Runs.{run_last, next_words, last_extra}
use Rattle.replay.proofs.after_probes.Goals as goal

pub returns-in_default : goal.returns-in_default
returns-in_default c = Run.begun

pub returns-then-not-is_ready : goal.returns-then-not-is_ready
returns-then-not-is_ready c = Run.begun

pub probes-init : goal.probes-init
probes-init c =
    let a = c.args in
    let ready : is_ready a.fit (length a.area.now) ≡ true = sym c.if-not-is_ready.ensures in
    let facts = ready_facts a.fit (length a.area.now) ready in
    let phase = c.in-Probe.is in
    let e = c.numbers_of-probe.ensures in
    run_first (probe_below a.fit _ _ _ c.numbers_of-probe.result phase e.1 e.2 facts.within)
    (at_probe a.fit _ _ _ c.numbers_of-probe.result phase e.1 e.2 e.0)

pub value_at-requires : goal.value_at-requires
value_at-requires c =
    let a = c.args in
    let ready : is_ready a.fit (length a.area.now) ≡ true = sym c.if-not-is_ready.ensures in
    let facts = ready_facts a.fit (length a.area.now) ready in
    facts.ready.n

pub next_probe-next-requires : goal.next_probe-next-requires
next_probe-next-requires c =
    let a = c.args in
    let ready : is_ready a.fit (length a.area.now) ≡ true = sym c.if-not-is_ready.ensures in
    let facts = ready_facts a.fit (length a.area.now) ready in
    (rw c.probes.invariant.size facts.ready.sound, c.probes.invariant.within)

pub settle-last-requires : goal.settle-last-requires
settle-last-requires c =
    let a = c.args in
    let ready : is_ready a.fit (length a.area.now) ≡ true = sym c.if-not-is_ready.ensures in
    let facts = ready_facts a.fit (length a.area.now) ready in
    let size : length c.next_probe-next.new.area ≡ length a.area.now = omega arith in
    rw c.with_probe-here.ensures (run_ready c.probes.invariant c.next_probe-next.ensures (rw size facts.ready))

pub counted-requires : goal.counted-requires
counted-requires c =
    let a = c.args in
    let ready : is_ready a.fit (length a.area.now) ≡ true = sym c.if-not-is_ready.ensures in
    let facts = ready_facts a.fit (length a.area.now) ready in
    let g = run_given c.probes.invariant facts.ready facts.shape c.in-Some.ensures in
    let e = last_extra a.fit _ c.in-Probe.place _ _ a.limit a.room _ _ g _ _ _ _ _ c.next_probe-next.ensures
    (rw c.with_probe-here.ensures at c.settle-last.ensures) in
    counts_fit g.said (omega (arith, c.ranges.limit)) (omega (arith, c.ranges.room)) e

pub returns-in_default-next : goal.returns-in_default-next
returns-in_default-next c =
    let a = c.args in
    let ready : is_ready a.fit (length a.area.now) ≡ true = sym c.if-not-is_ready.ensures in
    let facts = ready_facts a.fit (length a.area.now) ready in
    let g = run_given c.probes.invariant facts.ready facts.shape c.in-Some.ensures in
    let size : length c.settle-last.new.area ≡ length c.probes.area = omega arith in
    run_last c.probes.invariant g _ _ _ _ _ c.word_to_float.ensures size c.next_probe-next.ensures
    (rw c.with_probe-here.ensures at c.settle-last.ensures) c.counted.ensures

pub logged-probe-requires : goal.logged-probe-requires
logged-probe-requires c =
    let a = c.args in
    let ready : is_ready a.fit (length a.area.now) ≡ true = sym c.if-not-is_ready.ensures in
    let facts = ready_facts a.fit (length a.area.now) ready in
    let g = run_given c.probes.invariant facts.ready facts.shape c.in-Some.ensures in
    let e = next_words a.fit _ c.in-Probe.place _ _ a.limit a.room _ _ g _ _ _ _ c.next_probe-next.ensures c.in-Probe-next.is in
    counts_fit g.said (omega (arith, c.ranges.limit)) (omega (arith, c.ranges.room)) e

pub probes-smaller : goal.probes-smaller
probes-smaller c =
    let a = c.args in
    let ready : is_ready a.fit (length a.area.now) ≡ true = sym c.if-not-is_ready.ensures in
    let facts = ready_facts a.fit (length a.area.now) ready in
    let g = run_given c.probes.invariant facts.ready facts.shape c.in-Some.ensures in
    let size : length c.next_probe-next.new.area ≡ length c.probes.area = omega arith in
    let more = run_words c.probes.invariant g _ _ _ c.word_to_float.ensures size c.next_probe-next.ensures c.in-Probe-next.is c.logged-probe.ensures in
    omega (arith, more, g.here)

pub probes-preserved : goal.probes-preserved
probes-preserved c =
    let a = c.args in
    let ready : is_ready a.fit (length a.area.now) ≡ true = sym c.if-not-is_ready.ensures in
    let facts = ready_facts a.fit (length a.area.now) ready in
    let g = run_given c.probes.invariant facts.ready facts.shape c.in-Some.ensures in
    let size : length c.next_probe-next.new.area ≡ length c.probes.area = omega arith in
    run_more c.probes.invariant g _ _ _ c.word_to_float.ensures size c.next_probe-next.ensures c.in-Probe-next.is c.logged-probe.ensures
