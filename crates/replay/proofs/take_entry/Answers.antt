-- `replay::take_entry` meets its contract: a gradient is stored ahead of the driver's step. Assumes nothing.
use mathlib.Core.Path.{◌≡◌, ◌∙◌}
use lib.ListN.{length}
use Rattle.fit.proofs.Laws.{first_room}
use Rattle.held.proofs.Test.{ready_facts}
use Rattle.replay.specs.Replays.{source_words}
use Rattle.replay.specs.Taken.{gradient_at}
use Rattle.replay.proofs.Entries.{gradient_fits}
use Rattle.driver.proofs.Answers.{gradient_steps, other_steps}
use Rattle.std.proofs.Common.{◌+◌, map, arith, rules}
use Rattle.std.proofs.iter.Serving.{serving}
use Rattle.definition.specs.Number.{to_float}
use Rattle.definition.specs.Vector.{word}
use Rattle.area.proofs.Laws.{rowwise_stored}
use Rattle.area.proofs.Floats.{float_at, floats_count}
use Rattle.replay.proofs.take_entry.Goals as goal
use Rattle.replay.proofs.take_entry.Goals.{in-Gradient, in_default}

pub overflow_add-from : goal.overflow_add-from
overflow_add-from c = omega (arith, (ready_facts _ _ c.requires.0).words)

pub set_each-requires-clause-callable : goal.set_each-requires-clause-callable
set_each-requires-clause-callable c = λ b i z l.
    let a = c.args in
    let fits = gradient_fits a.reply a.fit.shape.n a.fit.extra.words _ c.in-Gradient.is c.requires.2 in
    let h = ready_facts _ _ c.requires.0 in
    grind (serving, arith, fits, h.words, h.ready.n)

pub set_each-requires-clause-room : goal.set_each-requires-clause-room
set_each-requires-clause-room c = omega (arith, first_room (ready_facts _ _ c.requires.0).ready.sound)

pub advance-requires : goal.advance-requires
advance-requires c =
    let h = ready_facts _ _ c.requires.0 in
    let size : length c.match-reply.area ≡ length c.args.area.now = omega arith in
    (rw size h.ready, h.within)

pub returns : goal.returns
returns c =
    let a = c.args in
    let from = a.fit.extra.words + 1 in
    let ws = source_words a.source in
    let v = map to_float (gradient_at a.fit.shape.n ws a.fit.extra.words) in
    elim c.match-reply.branch [
      | in-Gradient w ↦
          let fits = gradient_fits a.reply a.fit.shape.n a.fit.extra.words _ w.in-Gradient.is c.requires.2 in
          gradient_steps a.reply (gradient_at a.fit.shape.n ws a.fit.extra.words) w.in-Gradient.is c.requires.1
          (w.set_each.ensures (λ i w. word v i) (λ b i y z l p. search rules ∙ float_at ws a.fit.shape.n from fits i l)
          ∙ rowwise_stored _ _ _ v (floats_count ws a.fit.shape.n from fits))
          (rw w.area-is at c.advance.ensures)
      | in_default w ↦ other_steps a.reply _ w.in_default.not-Gradient (rw w.area-is at c.advance.ensures)
    ]
