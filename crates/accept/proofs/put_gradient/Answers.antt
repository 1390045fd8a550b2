-- `accept::put_gradient` meets its contract: word i of the trial's gradient becomes the float of a word. Assumes nothing.
use Rattle.std.proofs.Common.{◌≡◌, ap, ◌∙◌, map, length, arith, rules}
use lib.ListN.{length-map}
use Rattle.definition.specs.Number.{to_float}
use Rattle.definition.specs.Vector.{word}
use Rattle.area.proofs.Laws.{rowwise_stored}
use Rattle.area.proofs.Floats.{word_mapped}
use Rattle.driver.specs.Replies.{entry_kind}
use Rattle.accept.proofs.put_gradient.Goals as goal

pub returns-in-Gradient : goal.returns-in-Gradient
returns-in-Gradient c =
    let ws = c.args.gradient.now in
    let long : length ws ≡ c.args.n = c.requires.1 (ap entry_kind c.in-Gradient.is) in
    rw c.in-Gradient.is
    (c.set_each.ensures (λ i w. word (map to_float ws) i) (λ b i y z l p. search rules ∙ word_mapped ws i (omega (arith, l, long)))
    ∙ rowwise_stored _ _ _ (map to_float ws) (length-map ws to_float ∙ long))
