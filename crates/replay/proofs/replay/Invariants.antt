-- `replay::replay` meets its contract: at each turn what is reached is the definition's reading of as many entries. Assumes nothing.
use Prim.Native.Nat.{◌-◌}
use lib.ListN.{length}
use Rattle.replay.specs.Replays.{source_words}
use Rattle.replay.proofs.Laws.{Reached}
use Rattle.replay.proofs.replay.Given as goal

abbrev pub invariant-loop-reached : goal.invariant-loop-reached
invariant-loop-reached l = Reached l.initial.reached l.initial.area (source_words l.source) l.limit l.room l.reached l.area

abbrev pub decreases-loop-reached : goal.decreases-loop-reached
decreases-loop-reached l = length (source_words l.source) - l.reached.extra.words
