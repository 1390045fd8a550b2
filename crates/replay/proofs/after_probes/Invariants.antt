-- `replay::after_probes` meets its contract: at each turn some entries are taken, and the last probe is known. Assumes nothing.
use Prim.Native.Nat.{◌-◌}
use lib.ListN.{length}
use Rattle.replay.specs.Replays.{source_words}
use Rattle.replay.proofs.Runs.{RunTo}
use Rattle.replay.proofs.after_probes.Given as goal

abbrev pub invariant-probes : goal.invariant-probes
invariant-probes l = RunTo (source_words l.source) l.limit l.room l.fit l.place l.initial.area l.probe l.area

abbrev pub decreases-probes : goal.decreases-probes
decreases-probes l = length (source_words l.source) - l.probe.extra.words
