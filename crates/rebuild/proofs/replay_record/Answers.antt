-- `rebuild::replay_record` meets its contract. Assumes nothing.
use mathlib.Core.Path.{◌≡◌, refl, sym, subst}
use Prim.Native.Nat.{ℕ, ◌/◌}
use lib.ListN.{length}
use Rattle.definition.proofs.Bytes.{words_of-length}
use Rattle.record.specs.Records.{entry_bytes}
use Rattle.replay.specs.Replays.{Replays}
use Rattle.rebuild.specs.Built.{entries_in}
use Rattle.rebuild.proofs.Built.{builds}
use Rattle.rebuild.proofs.Recorded.{opens_room, entries_within, record_setup, record_opened, record_ready}
use Rattle.rebuild.proofs.replay_record.Goals as goal

pub begin-first-requires-clause-room : goal.begin-first-requires-clause-room
begin-first-requires-clause-room c =
    let a = c.args in
    let bs = c.requires.0 in
    let opens = c.requires.1 in
    let size = length a.area.now in
    let p = c.setup_from-setup in
    let is = record_setup bs size a.parsed.options a.parsed.frame opens p.result _ p.ensures.setup c.vectors-vectors.ensures in
    (opens_room bs size a.parsed.options a.parsed.frame opens p.result is).0

pub entries-entries-requires : goal.entries-entries-requires
entries-entries-requires c =
    let a = c.args in
    entries_within c.requires.0 (length a.area.now) a.parsed.options a.parsed.frame c.requires.1

pub replay-replayed-requires : goal.replay-replayed-requires
replay-replayed-requires c =
    let a = c.args in
    let bs = c.requires.0 in
    let opens = c.requires.1 in
    let size = length a.area.now in
    let p = c.setup_from-setup in
    let is = record_setup bs size a.parsed.options a.parsed.frame opens p.result _ p.ensures.setup c.vectors-vectors.ensures in
    let k = record_opened bs size a.parsed.options a.parsed.frame opens p.result is c.begin-first.ensures in
    (record_ready bs size a.parsed.options a.parsed.frame opens refl k, k.entries, k.words)

pub returns : goal.returns
returns c =
    let a = c.args in
    let bs = c.requires.0 in
    let opens = c.requires.1 in
    let f = a.parsed.frame in
    let p = c.setup_from-setup in
    let r = c.replay-replayed in
    let is = record_setup bs (length a.area.now) a.parsed.options f opens p.result _ p.ensures.setup c.vectors-vectors.ensures in
    let k = record_opened bs (length a.area.now) a.parsed.options f opens p.result is c.begin-first.ensures in
    let e = c.entries-entries.ensures in
    let limit : length (entry_bytes f) / 8 ≡ length (entries_in f) = sym (words_of-length (length (entry_bytes f) / 8) (entry_bytes f)) in
    let lent : Replays c.begin-first.result c.begin-first.new.area (entries_in f) (length (entry_bytes f) / 8) a.room r.result r.new.area = rw e at r.ensures in
    let all = subst (λ (k : ℕ). Replays c.begin-first.result c.begin-first.new.area (entries_in f) k a.room r.result r.new.area) limit lent in
    builds k r.result r.new.area c.settle.new.area all c.settle.ensures
