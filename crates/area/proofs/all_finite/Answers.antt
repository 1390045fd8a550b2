-- `area::all_finite` meets its contract. Assumes nothing.
use mathlib.Core.Path.{◌≡◌, ◌∙◌}
use borrow.Author.Rules.{rules}
use borrow.Author.Tests.{tests}
use mathlib.Core.Bool.{true, false}
use lib.Ieee.Scale.{finite}
use Rattle.std.proofs.lemmas.Iterator.{YieldsList-from_slice, cases_from_all}
use Rattle.area.proofs.Laws.{tested, part_lent}
use Rattle.area.proofs.all_finite.Goals as goal

pub returns : goal.returns
returns c =
    let a = c.args.area.now in
    tested a c.args.vector c.args.n c.all.result c.requires
    (cases_from_all _ _ _ (λ x. finite x ≡ true) (λ x. finite x ≡ false) c.all.ensures.ran
    (YieldsList-from_slice _ (c.iter.ensures.rest ∙ part_lent a c.args.vector c.args.n)) (λ x q k. search (rules, tests)) (λ x q k. search (rules, tests)))
