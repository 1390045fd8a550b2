-- `question::put_probe` meets its contract: the trial point is copied, and its word i replaced. Assumes nothing.
use native.Mathlib.Omega.{arith}
use Rattle.area.specs.Area.{view, vector_trial}
use Rattle.area.proofs.Laws.{length-view}
use mathlib.Core.Path.{refl, ◌∙◌}
use Rattle.fit.specs.State.{machine_of, side_of}
use Rattle.gradient.proofs.Laws.{probes_read}
use Rattle.fit.proofs.Laws.{low_room}
use Rattle.question.proofs.Laws.{probe_written}
use Rattle.question.proofs.put_probe.Goals as goal

pub returns : goal.returns
returns c =
    let t = c.args.fit in
    let n = t.shape.n in
    let a = c.args.area.now in
    let l = length-view a n vector_trial (low_room vector_trial c.requires.0 (omega arith)) in
    probe_written (side_of c.args.side) (view a n vector_trial) c.args.out.now c.copy_out.ensures (rw l c.requires.1)
    (c.probes_at-probes.ensures ∙ probes_read (machine_of t a).terms a n c.args.i c.requires.1 refl refl) c.probe_word.ensures
