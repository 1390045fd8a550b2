-- `cauchy::Path::along` meets its contract, test by test. Assumes nothing.
use mathlib.Core.Bool.{not}
use mathlib.Core.Path.{refl, ap}
use Rattle.cauchy.proofs.Segments.{along_fails, along_ends, along_leads}
use Rattle.cauchy.proofs.Path.along.Goals as goal

pub returns-then-not-is_finite : goal.returns-then-not-is_finite
returns-then-not-is_finite c =
    let s = c.args in
    rw (← c.next_time-next.ensures) (along_fails s.n s.self.breaks.now s.self _ s.minimizer c.is_finite.ensures (ap not c.if-not-is_finite.true))

pub returns-then-minimizer-next : goal.returns-then-minimizer-next
returns-then-minimizer-next c =
    let s = c.args in
    rw (← c.next_time-next.ensures)
    (along_ends s.n s.self.breaks.now s.self _ s.minimizer c.is_finite.ensures (ap not c.if-not-is_finite.false) c.if-minimizer-next.true
    c.travel.ensures c.point_on_path.ensures)

pub returns : goal.returns
returns c =
    let s = c.args in
    rw (← c.next_time-next.ensures)
    (along_leads s.n s.self.breaks.now s.self _ s.minimizer refl c.is_finite.ensures (ap not c.if-not-is_finite.false) c.if-minimizer-next.false
    c.pass.ensures)
