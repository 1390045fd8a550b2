-- `cauchy::Path::next_time` meets its contract: the break that is read, or none. Assumes nothing.
use mathlib.Core.Path.{sym, ap, ◌∙◌}
use native.Mathlib.Omega.{arith}
use Rattle.definition.specs.Geometry.{Break}
use Rattle.cauchy.specs.State.{break_of}
use Rattle.cauchy.proofs.Order.{break_get}
use Rattle.cauchy.proofs.Path.next_time.Goals as goal

pub returns-then-self : goal.returns-then-self
returns-then-self c = ap (λ (d : Break). d.time) (ap break_of c.break_at.ensures ∙ sym (break_get _ _ c.if-self.true (omega arith)))
