-- The projected path read off the area: its direction, displacement and met bounds are scratch vectors, its breaks an array with a count.
use Rattle.std.specs.Prelude.{ℕ, zero, suc, ◌+◌, ◌≤◌, ◌<◌, ◌≡◌, Bool, cond, ◌&&◌, ◌||◌, List, [], ◌∷◌, map, length, take, get_or, set, Float}
use Rattle.std.specs.Prelude.{Option}
use Rattle.std.specs.declared.ops.ControlFlow.{ControlFlow}
use Rattle.std.specs.declared.ops.ControlFlow.TheVariants.{Continue, Break}
use Rattle.std.specs.Float.Ieee as Ieee
use Rattle.std.specs.Float.{nan}
use Rattle.std.specs.Float.Ieee.Scale.{finite}
use Rattle.definition.specs.Number.{total_key, total_le, plus, minus, times, over, clamp, zero64, infinity}
use Rattle.definition.specs.Problem.{most_coordinates}
use Rattle.definition.specs.Geometry as D
use Rattle.area.specs.Area.{Vecs, bounds_of, rowwise, given, ScratchOnly, vector_x, vector_g, vector_lower, vector_upper}
use Rattle.area.specs.Area.{vector_velocity, vector_displacement, vector_active, vector_cauchy}
use Rattle.cauchy.specs.declared.BreakTime.{BreakTime}
use Rattle.cauchy.specs.declared.Breaks.{Breaks}
use Rattle.cauchy.specs.declared.Path.{Path}
use Rattle.cauchy.specs.declared.Coordinate.{Coordinate}

-- ---- break times

abbrev pub break_of : BreakTime → D.Break
break_of b = record { time = b.time; coordinate = b.coordinate }

-- what stands past the end
abbrev pub no_break_time : BreakTime
no_break_time = record { time = nan; coordinate = 0 }

-- from place k down: where the break before is not later, t goes to k; else that break moves up
unfoldable pub sift : ℕ → List BreakTime → BreakTime → List BreakTime
sift zero bs t = set bs 0 t
sift (suc k) bs t =
    let below = sift k (set bs (suc k) (get_or bs k no_break_time)) t in
    cond (total_le (get_or bs k no_break_time).time t.time) (set bs (suc k) t) below

-- the first `count` places of the array
abbrev pub break_list : Breaks → List D.Break
break_list b = map break_of (take b.count b.list)

-- the times are in order, and none stands before m
unfoldable pub Rising : ℕ → List D.Break → Type 0
Rising m [] = Unit
Rising m (b ∷ bs) = (m ≤ total_key b.time) × Rising (total_key b.time) bs

-- breaks of n coordinates
pub record Listed (n : ℕ) (b : Breaks) : Type 0 where
  pub long : length b.list ≡ most_coordinates
  pub few : b.count ≤ most_coordinates
  pub within : (k : ℕ) → k < b.count → (get_or b.list k no_break_time).coordinate < n

-- breaks in order, with room for one more
pub record Ordered (b : Breaks) : Type 0 where
  pub long : length b.list ≡ most_coordinates
  pub room : b.count < most_coordinates
  pub rising : Rising 0 (break_list b)

-- r is b with t in its place
pub record Inserted (b : Breaks) (t : BreakTime) (r : Breaks) : Type 0 where
  pub long : length r.list ≡ most_coordinates
  pub count : r.count ≡ b.count + 1
  pub is : break_list r ≡ D.inserted (break_of t) (break_list b)

-- r is b, and coordinate i with its time t where that is finite
pub record Kept (b : Breaks) (t : Float) (i : ℕ) (r : Breaks) : Type 0 where
  pub long : length r.list ≡ most_coordinates
  pub count : r.count ≤ b.count + 1
  pub is : break_list r ≡ cond (finite t) (D.inserted (record { time = t; coordinate = i }) (break_list b)) (break_list b)

-- r is all the breaks of n coordinates
pub record Found (n : ℕ) (v : Vecs) (r : Breaks) : Type 0 where
  pub listed : Listed n r
  pub is : break_list r ≡ D.breaks_of n (bounds_of v) (v vector_x) (v vector_g)

-- the same of one coordinate
abbrev pub moves_up_of : Coordinate → Bool
moves_up_of k = Ieee.lt zero64 (Ieee.neg k.g) && Ieee.lt k.x k.upper

abbrev pub moves_down_of : Coordinate → Bool
moves_down_of k = Ieee.lt (Ieee.neg k.g) zero64 && Ieee.lt k.lower k.x

abbrev pub velocity_of : Coordinate → Float
velocity_of k = cond (moves_up_of k || moves_down_of k) (Ieee.neg k.g) zero64

abbrev pub break_time_of : Coordinate → Float
break_time_of k =
    cond (moves_up_of k) (over (minus k.upper k.x) (Ieee.neg k.g))
    (cond (moves_down_of k) (over (minus k.lower k.x) (Ieee.neg k.g)) infinity)

-- and from the words at one index of all the vectors
abbrev pub coordinate_of : (ℕ → Float) → Coordinate
coordinate_of w = record { x = w vector_x; g = w vector_g; lower = w vector_lower; upper = w vector_upper }

abbrev pub velocity_in : (ℕ → Float) → Float
velocity_in w = velocity_of (coordinate_of w)

abbrev pub break_time_in : (ℕ → Float) → Float
break_time_in w = break_time_of (coordinate_of w)

abbrev pub bound_in : (ℕ → Float) → Float
bound_in w = cond (Ieee.lt zero64 (w vector_velocity)) (w vector_upper) (w vector_lower)

-- ---- the path

abbrev pub path_of : Path → Vecs → D.Path
path_of p v = record {
  direction = v vector_velocity;
  displacement = v vector_displacement;
  active = v vector_active;
  previous = p.previous;
  event = p.event;
}

abbrev pub travelled_of : ℕ → Float → Vecs → Vecs
travelled_of n t = rowwise n vector_displacement (λ i w. plus (w vector_displacement) (times t (w vector_velocity)))

abbrev pub point_in : (ℕ → Float) → Float
point_in w = D.stood_at (w vector_active) (clamp (plus (w vector_x) (w vector_displacement)) (w vector_lower) (w vector_upper))

-- r with the vectors b is p with a, taken through F, and only scratch is touched
pub record Travels (F : D.Path → D.Path) (p : Path) (a : Vecs) (r : Path) (b : Vecs) : Type 0 where
  pub is : path_of r b ≡ F (path_of p a)
  pub breaks : r.breaks.now ≡ p.breaks.now
  pub kept : ScratchOnly a b

-- r with the vectors b is the path along the breaks x before its first segment
pub record Begins (n : ℕ) (x : Breaks) (a : Vecs) (r : Path) (b : Vecs) : Type 0 where
  pub is : path_of r b ≡ D.path_start n (bounds_of a) (a vector_x) (a vector_g)
  pub breaks : r.breaks.now ≡ x
  pub kept : ScratchOnly a b

-- the Cauchy point of b, where ok says that there is one
pub record Points (F : Option (List Float)) (a : Vecs) (ok : Bool) (b : Vecs) : Type 0 where
  pub is : given ok (b vector_cauchy) ≡ F
  pub kept : ScratchOnly a b

-- the point of the path with the vectors a, wherever its breaks stand
pub record PathPoint (n : ℕ) (a : Vecs) (ok : Bool) (b : Vecs) : Type 0 where
  pub is : (p : Path) → given ok (b vector_cauchy) ≡ D.point_on_path n (bounds_of a) (a vector_x) (path_of p a)
  pub kept : ScratchOnly a b

-- a segment ends the path, with the Cauchy point of v or without, or leads on
abbrev pub segment_of : ControlFlow Bool Path → Vecs → D.Segment
segment_of (Break ok) v = D.Segment.ended (given ok (v vector_cauchy))
segment_of (Continue p) v = D.Segment.onward (path_of p v)

-- where it leads on, it does so along the breaks x
abbrev pub LeadsAlong : Breaks → ControlFlow Bool Path → Type 0
LeadsAlong x (Break ok) = Unit
LeadsAlong x (Continue p) = p.breaks.now ≡ x

pub record Segments (F : D.Segment) (x : Breaks) (a : Vecs) (r : ControlFlow Bool Path) (b : Vecs) : Type 0 where
  pub is : segment_of r b ≡ F
  pub breaks : LeadsAlong x r
  pub kept : ScratchOnly a b
