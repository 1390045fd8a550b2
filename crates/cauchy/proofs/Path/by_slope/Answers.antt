-- `cauchy::Path::by_slope` meets its contract, test by test. Assumes nothing.
use mathlib.Core.Path.{refl, sym, ◌∙◌}
use Rattle.float.proofs.Constants.{zero_is}
use Rattle.cauchy.proofs.Segments.{slope_fails, slope_ends, slope_goes}
use Rattle.cauchy.proofs.Path.by_slope.Goals as goal

pub returns-then-not-is_usable : goal.returns-then-not-is_usable
returns-then-not-is_usable c =
    let s = c.args in
    slope_fails s.n s.self.breaks.now s.self s.slope s.curvature (sym c.is_usable.ensures ∙ c.if-not-is_usable.true)

pub returns-then-slope : goal.returns-then-slope
returns-then-slope c =
    let s = c.args in
    slope_ends s.n s.self.breaks.now s.self s.slope s.curvature (sym c.is_usable.ensures ∙ c.if-not-is_usable.false)
    (rw zero_is at c.if-slope.true) c.point_on_path.ensures

pub returns : goal.returns
returns c =
    let s = c.args in
    slope_goes s.n s.self.breaks.now s.self s.slope s.curvature (sym c.is_usable.ensures ∙ c.if-not-is_usable.false)
    (rw zero_is at c.if-slope.false) refl c.along.ensures
