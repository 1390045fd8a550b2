-- The path of the Cauchy point followed segment by segment, with no bound on their number: an end stays.
use Rattle.std.specs.Prelude.{ℕ, zero, suc, List, Float}
use Rattle.definition.specs.Problem.{Bounds}
use Rattle.definition.specs.Compact.{Compact}
use Rattle.definition.specs.Geometry.{Break, Segment, ended, onward, breaks_of, segment, path_start}

abbrev pub first_segment : ℕ → Bounds → Compact → List Float → List Float → Segment
first_segment n b c x g = segment n b c x g (breaks_of n b x g) (path_start n b x g)

abbrev pub segment_behind : ℕ → Bounds → Compact → List Float → List Float → List Break → Segment → Segment
segment_behind n b c x g bs (ended r) = ended r
segment_behind n b c x g bs (onward p) = segment n b c x g bs p

-- k segments behind the one that is given
unfoldable pub segment_after : ℕ → ℕ → Bounds → Compact → List Float → List Float → List Break → Segment → Segment
segment_after zero n b c x g bs t = t
segment_after (suc k) n b c x g bs t = segment_after k n b c x g bs (segment_behind n b c x g bs t)
