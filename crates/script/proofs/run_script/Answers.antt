-- `script::run_script` meets its contract: one call more with each turn. Assumes nothing.
use Rattle.std.proofs.Common.{refl, ◌∙◌}
use Rattle.lbfgsb.specs.Words.{words}
use Rattle.script.proofs.Laws.{given_same, ran_none, ran_more, ran_all}
use Rattle.script.proofs.run_script.Goals as goal

pub loop-op-init : goal.loop-op-init
loop-op-init c = (refl, refl, refl, ran_none _)

pub loop-op-preserved : goal.loop-op-preserved
loop-op-preserved c =
    let l = c.loop-op in
    let i = l.invariant in (
      c.step-ran.auto.point ∙ i.0,
      c.step-ran.auto.found ∙ i.1,
      c.step-ran.auto.bytes ∙ i.2,
      ran_more _ _ _ l.op-index _ _ (words l.ran.fit l.area l.log) _ _ _ (given_same _ _ _ _ _ _ _ _ _ i.0 i.1 i.2) c.loop-op-test.true
          c.of_words.ensures i.3 c.step-ran.ensures,
    )

pub returns : goal.returns
returns c = ran_all _ _ _ c.loop-op.op-index _ _ _ c.as_chunks.ensures.front c.loop-op-test.false c.loop-op.invariant.3
