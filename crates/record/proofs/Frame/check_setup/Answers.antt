-- `record::Frame::check_setup` meets its contract. Assumes nothing.
use Rattle.std.proofs.Common.{ap, ◌∙◌}
use Rattle.definition.specs.Problem as P
use Rattle.definition.specs.Problem.{validate, ◌then◌}
use Rattle.definition.specs.Record.{check_area}
use Rattle.record.specs.Records.{setup_from, lengths}
use Rattle.record.proofs.Floats.{laid_setup}
use Rattle.record.proofs.Frame.check_setup.Goals as goal

pub returns : goal.returns
returns c =
    λ l.
    let a = c.args in
    let f = a.self in
    let is =
    c.setup_from.ensures.setup ∙ ap (λ v. setup_from a.options v f.n) c.vectors-vectors.ensures
    ∙ laid_setup f c.requires.0 c.requires.1 a.options c.requires.2 in
    c.check_start.ensures l ∙ ap (λ (s : P.Setup). validate s then check_area (lengths a.available l) s) is
