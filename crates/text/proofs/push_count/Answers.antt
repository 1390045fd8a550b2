-- `text::push_count` meets its contract: the number in decimal digits. Assumes nothing.
use Rattle.std.proofs.Common.{List, ℕ, ◌++◌, ap, ◌∙◌, arith}
use Rattle.text.proofs.Laws.{counted}
use Rattle.text.proofs.push_count.Goals as goal

pub returns-clause-items : goal.returns-clause-items
returns-clause-items c =
    let line = counted c.args.name.now _ _ (omega (arith, c.ranges.n)) (c.as_bytes.ensures.value ∙ c.format.ensures.text) in
    c.push_line.ensures.items ∙ ap (λ (line : List ℕ). c.args.text.now.items ++ line) line
