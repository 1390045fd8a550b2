-- `opening::reset` meets its contract. Assumes nothing.
use mathlib.Core.Path.{ap, ◌∙◌}
use borrow.Author.Rules.{rules}
use Rattle.area.specs.Area.{view}
use Rattle.opening.specs.Opened.{boxed, first_vectors}
use Rattle.opening.proofs.Laws.{opened, first_saved, begins, setup_stays, start_long}
use Rattle.opening.proofs.reset.Goals as goal

pub returns : goal.returns
returns c =
    let o = c.args.options in
    let n = c.args.n in
    let a = c.args.area.now in
    let v = view a n in
    opened (first_vectors n (boxed o.bounded n v)) c.requires c.first_fit.ensures (search rules)
    (c.first_vectors.ensures ∙ ap (first_vectors n) c.open_box.ensures)
    (setup_stays o n v) (first_saved o.bounded n v) (begins o n v (start_long a c.requires))
