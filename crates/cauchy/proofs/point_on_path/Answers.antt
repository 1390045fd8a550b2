-- `cauchy::point_on_path` meets its contract: the point is made, and tested. Assumes nothing.
use Rattle.cauchy.proofs.Paths.{points}
use Rattle.cauchy.proofs.point_on_path.Goals as goal

pub returns : goal.returns
returns c = points _ _ c.put_point.ensures c.all_finite.ensures
