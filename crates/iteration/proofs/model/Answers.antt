-- `iteration::model` meets its contract: no Cauchy point, or what the minimum over its free coordinates gives. Assumes nothing.
use mathlib.Core.Path.{◌≡◌}
use borrow.Author.Rules.{rules}
use lib.ListN.{length}
use Rattle.compact.proofs.Models.{modelled_kept, prepared}
use Rattle.iteration.proofs.Laws.{no_point, from_point}
use Rattle.iteration.proofs.model.Goals as goal

pub generalized_cauchy-requires : goal.generalized_cauchy-requires
generalized_cauchy-requires c = (search rules, prepared c.build.ensures.0.is, search rules)

pub primal_minimize-requires : goal.primal_minimize-requires
primal_minimize-requires c =
    let b = c.build.ensures.0 in
    let z : length c.generalized_cauchy.new.area ≡ length c.args.area.now = search rules in (
      rw (b.shape, c.new-model.ensures.0, z) c.requires.0,
      modelled_kept _ c.generalized_cauchy.ensures.kept.high b.is,
    )

pub returns-then-generalized_cauchy : goal.returns-then-generalized_cauchy
returns-then-generalized_cauchy c =
    let b = c.build.ensures.0 in
    let m = c.new-model.ensures in
    from_point c.requires.0 (rw (b.shape, m.0) at b.kept) (rw (b.shape, b.theta, m.0, m.1) at c.generalized_cauchy.ensures) c.if-generalized_cauchy.true
    (rw (b.shape, b.theta, m.0, m.1) at c.primal_minimize.ensures)

pub returns-else-generalized_cauchy : goal.returns-else-generalized_cauchy
returns-else-generalized_cauchy c =
    let b = c.build.ensures.0 in
    let m = c.new-model.ensures in
    rw c.if-generalized_cauchy.false
    (no_point c.requires.0 (rw (b.shape, m.0) at b.kept) (rw (b.shape, b.theta, m.0, m.1) at c.generalized_cauchy.ensures) c.if-generalized_cauchy.false)
