-- `text::push_float` meets its contract: 16 digits. Assumes nothing.
use Rattle.std.proofs.Common.{List, ℕ, ◌++◌, ap, ◌∙◌, arith}
use Rattle.text.specs.Text.{hexadecimal}
use Rattle.text.proofs.Laws.{hexadecimal_is, valued}
use Rattle.text.proofs.push_float.Goals as goal

pub returns-clause-items : goal.returns-clause-items
returns-clause-items c =
    let k = c.hex-count in
    let digits = hexadecimal_is k.new.out k.result _ (omega (arith, k.ensures.len)) (omega (arith, k.ensures.in_bounds)) k.ensures.digits in
    c.push_line.ensures.items
    ∙ ap (λ (line : List ℕ). c.args.text.now.items ++ line) (valued c.args.name.now _ c.args.x (digits ∙ ap hexadecimal c.float_to_word.ensures))
