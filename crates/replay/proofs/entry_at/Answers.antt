-- `replay::entry_at` meets its contract. Assumes nothing.
use native.Mathlib.Omega.{arith}
use Rattle.replay.specs.Replays.{source_words}
use Rattle.replay.proofs.Entries.{size_given, reply_at_lem}
use Rattle.replay.proofs.entry_at.Goals as goal

pub returns-else-kind-eq1 : goal.returns-else-kind-eq1
returns-else-kind-eq1 c =
    let a = c.args in
    let size = size_given _ _ c.in_ok-length.ensures in
    reply_at_lem a.n (source_words a.source) a.at _ _ c.requires.0 c.word-kind.ensures size.0 _ size.1
    (omega (arith, c.words.ensures, c.if-words-at.false)) c.if-kind-eq1.false c.of_kind-reply.ensures
