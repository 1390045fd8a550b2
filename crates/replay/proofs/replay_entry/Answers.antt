-- `replay::replay_entry` meets its contract: no entry, an entry that is refused, or one that is taken. Assumes nothing.
use mathlib.Core.Path.{◌≡◌, subst}
use native.Mathlib.Omega.{arith}
use lib.ListN.{length}
use Rattle.std.proofs.lemmas.Result.{err_from_is_err_and}
use Rattle.held.proofs.Test.{ready_facts}
use Rattle.replay.specs.Replays.{source_words}
use Rattle.replay.specs.Taken.{EntryIs}
use Rattle.replay.proofs.Entries.{reads_most}
use Rattle.replay.proofs.Laws.{refused_is, admitted_is, took}
use Rattle.replay.proofs.replay_entry.Goals as goal

pub returns-in_err-check_admitted : goal.returns-in_err-check_admitted
returns-in_err-check_admitted c =
    let a = c.args in
    let ws = source_words a.source in
    let reads = subst (EntryIs a.fit.shape.n ws a.fit.extra.words) c.in_ok-entry.ensures.ok_part c.entry_at.ensures in
    let p = err_from_is_err_and c.from_residual-in_err-check_admitted.result c.from_residual-in_err-check_admitted.ensures.1 in
    rw (p.1, p.2) (refused_is a.fit a.area.now ws a.room c.requires.0 _ _ reads _ c.in_err-check_admitted.ensures)

pub counted-requires : goal.counted-requires
counted-requires c =
    let a = c.args in
    let ws = source_words a.source in
    let reads = subst (EntryIs a.fit.shape.n ws a.fit.extra.words) c.in_ok-entry.ensures.ok_part c.entry_at.ensures in
    let k = admitted_is a.fit a.area.now ws a.room c.requires.0 _ _ reads c.in_ok-check_admitted.ensures in
    let h = ready_facts a.fit (length a.area.now) k.ready in
    let kept = c.take_entry-next.ensures.kept in
    rw kept.extra (omega (arith, h.entries), omega (arith, h.words, reads.size, reads_most reads, c.requires.1))

pub returns : goal.returns
returns c =
    let a = c.args in
    let ws = source_words a.source in
    let reads = subst (EntryIs a.fit.shape.n ws a.fit.extra.words) c.in_ok-entry.ensures.ok_part c.entry_at.ensures in
    let k = admitted_is a.fit a.area.now ws a.room c.requires.0 _ _ reads c.in_ok-check_admitted.ensures in
    let size : length c.take_entry-next.new.area ≡ length a.area.now = omega arith in
    took a.fit a.area.now ws a.room c.requires.0 _ _ reads k size c.take_entry-next.ensures c.counted.ensures
