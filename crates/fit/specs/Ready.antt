-- What a step asks of a fit and its area: the test for a held fit gives it.
use Rattle.std.specs.Prelude.{ℕ, ◌≤◌, ◌<◌}
use Rattle.definition.specs.Problem.{most_coordinates}
use Rattle.counters.specs.Counts.{most_counted}
use Rattle.compact.specs.State.{Sound}
use Rattle.fit.specs.declared.Fit.{Fit}

pub record Ready (t : Fit) (size : ℕ) : Type 0 where
  pub sound : Sound t.shape size
  -- room for another iteration and another gradient
  pub nit : t.counters.nit < most_counted
  pub njev : t.counters.njev < most_counted
  pub n : t.shape.n ≤ most_coordinates
