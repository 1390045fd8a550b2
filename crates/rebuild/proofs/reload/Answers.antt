-- `rebuild::reload` meets its contract. Assumes nothing.
use lib.ListN.{length}
use Rattle.rebuild.proofs.Recorded.{entries_within, copies_within}
use Rattle.rebuild.proofs.reload.Goals as goal

pub entries-requires : goal.entries-requires
entries-requires c =
    let a = c.args in
    entries_within c.requires.0 (length a.area.now) a.parsed.options a.parsed.frame c.requires.1

pub copy_entries-requires : goal.copy_entries-requires
copy_entries-requires c =
    let a = c.args in
    rw c.entries.ensures
    (copies_within c.requires.0 (length a.area.now) a.parsed.options a.parsed.frame c.requires.1 c.in_ok-read.ensures)
