-- The generalized Cauchy point along the projected path, and the minimum over its free coordinates.
use Rattle.std.specs.Prelude.{ℕ, zero, suc, ◌+◌, ◌-◌, ◌*◌, Bool, true, false, not, cond, ◌&&◌, ◌||◌, List, [], ◌∷◌, eqb, length, get_or, set, Float}
use Rattle.std.specs.Prelude.{Option, None, Some}
use Rattle.std.specs.Float.Ieee as Ieee
use Rattle.std.specs.Float.{nan}
use Rattle.std.specs.Float.Ieee.{is_nan}
use Rattle.std.specs.Float.Ieee.Scale.{finite}
use Rattle.definition.specs.Number.{plus, minus, times, over, min, total_le, zero64, neg_zero, one64, infinity}
use Rattle.definition.specs.Vector.{fold_to, tab, word, zeros, sum, dot, all_finite, difference, ◌and_then◌, finite_only}
use Rattle.definition.specs.Problem.{Bounds, in_box, or_else}
use Rattle.definition.specs.Solve.{solve}
use Rattle.definition.specs.Compact.{Compact, count, column_word, block_entry, padded, padded_rows, product}

-- ---- break times: when a coordinate meets its bound

pub record Break : Type 0 where
  pub time : Float
  pub coordinate : ℕ

-- what stands past the last break
abbrev pub no_break : Break
no_break = record { time = infinity; coordinate = 0 }

-- behind every break that is not later: the sort is stable
unfoldable pub inserted : Break → List Break → List Break
inserted b [] = b ∷ []
inserted b (c ∷ cs) = let behind = c ∷ inserted b cs in cond (total_le c.time b.time) behind (b ∷ c ∷ cs)

-- the coordinate moves up, or down, or not at all
abbrev pub moves_up : Bounds → List Float → List Float → ℕ → Bool
moves_up b x g i = Ieee.lt zero64 (Ieee.neg (word g i)) && Ieee.lt (word x i) (word b.upper i)

abbrev pub moves_down : Bounds → List Float → List Float → ℕ → Bool
moves_down b x g i = Ieee.lt (Ieee.neg (word g i)) zero64 && Ieee.lt (word b.lower i) (word x i)

abbrev pub velocity : Bounds → List Float → List Float → ℕ → Float
velocity b x g i = cond (moves_up b x g i || moves_down b x g i) (Ieee.neg (word g i)) zero64

-- when it meets its bound: infinity where it does not move
abbrev pub break_time : Bounds → List Float → List Float → ℕ → Float
break_time b x g i =
    cond (moves_up b x g i) (over (minus (word b.upper i) (word x i)) (Ieee.neg (word g i)))
    (cond (moves_down b x g i) (over (minus (word b.lower i) (word x i)) (Ieee.neg (word g i))) infinity)

-- the finite ones only, inserted in the order of the coordinates
unfoldable pub breaks_of : ℕ → Bounds → List Float → List Float → List Break
breaks_of n b x g =
    fold_to n (λ i bs. cond (finite (break_time b x g i)) (inserted (record { time = break_time b x g i; coordinate = i }) bs) bs) []

-- ---- the path

pub record Path : Type 0 where
  pub direction : List Float
  pub displacement : List Float
  -- the bound of each coordinate that has met it, NaN where none is met (an accepted bound is never NaN)
  pub active : List Float
  -- the time of the last break passed, and how many are passed
  pub previous : Float
  pub event : ℕ

abbrev pub path : List Float → List Float → List Float → Float → ℕ → Path
path d z a t k = record { direction = d; displacement = z; active = a; previous = t; event = k }

-- a segment ends the path, with a point or without, or leads on
pub data Segment : Type 0 where
  ended : Option (List Float) → Segment
  onward : Path → Segment

abbrev pub stood_at : Float → Float → Float
stood_at bound x = cond (is_nan bound) x bound

-- `point_on_path`: a bound that was met stands exactly
unfoldable pub point_on_path : ℕ → Bounds → List Float → Path → Option (List Float)
point_on_path n b x p =
    finite_only n (tab n (λ i. stood_at (word p.active i) (in_box b i (plus (word x i) (word p.displacement i)))))

abbrev pub travelled : ℕ → Float → Path → Path
travelled n t p =
    let z = tab n (λ i. plus (word p.displacement i) (times t (word p.direction i))) in
    path p.direction z p.active p.previous p.event

abbrev pub bound_met : Bounds → Path → ℕ → Float
bound_met b p i = cond (Ieee.lt zero64 (word p.direction i)) (word b.upper i) (word b.lower i)

-- coordinate i stops at its bound
abbrev pub stopped : Bounds → List Float → ℕ → Path → Path
stopped b x i p =
    path (set p.direction i zero64) (set p.displacement i (minus (bound_met b p i) (word x i))) (set p.active i (bound_met b p i))
    p.previous (p.event + 1)

-- every break at the time t stops its coordinate; at most `left` of them
unfoldable pub stop_all : ℕ → Bounds → List Float → List Break → Float → Path → Path
stop_all zero b x bs t p = p
stop_all (suc left) b x bs t p =
    let next = stop_all left b x bs t (stopped b x (get_or bs p.event no_break).coordinate p) in
    cond (Ieee.eq (get_or bs p.event no_break).time t) next p

abbrev pub reached : Float → Path → Path
reached t p = path p.direction p.displacement p.active t p.event

-- past the segment that ends at t
unfoldable pub passed : ℕ → Bounds → List Float → List Break → Float → Path → Path
passed n b x bs t p = reached t (stop_all (length bs - p.event) b x bs t (travelled n (minus t p.previous) p))

-- with a slope below zero and a curvature above: a minimum inside the segment, or on to its end
unfoldable pub along : ℕ → Bounds → List Float → List Break → Path → Float → Float → Segment
along n b x bs p next minimizer =
    cond (not (finite minimizer)) (ended None)
    (cond (Ieee.lt minimizer (minus next p.previous))
    (ended (point_on_path n b x (travelled n minimizer p)))
    (onward (passed n b x bs next p)))

unfoldable pub by_slope : ℕ → Bounds → List Float → List Break → Path → Float → Float → Segment
by_slope n b x bs p slope curvature =
    cond (not (finite slope && finite curvature && Ieee.lt zero64 curvature)) (ended None)
    (cond (Ieee.le zero64 slope) (ended (point_on_path n b x p))
    (along n b x bs p (get_or bs p.event no_break).time (over (Ieee.neg slope) curvature)))

abbrev pub still : ℕ → List Float → Bool
still n d = fold_to n (λ i s. s && Ieee.eq (word d i) zero64) true

-- a product that fails ends the path with no point
unfoldable pub segment : ℕ → Bounds → Compact → List Float → List Float → List Break → Path → Segment
segment n b c x g bs p =
    let d = p.direction in
    let next = product n c d and_then λ bd. product n c p.displacement and_then λ bz.
    Some (by_slope n b x bs p (plus (dot n g d) (dot n bz d)) (dot n d bd)) in
    cond (still n d) (ended (point_on_path n b x p)) (or_else next (ended None))

-- Each segment that leads on passes a break, so `left` segments more than the breaks there are always end the path.
unfoldable pub walk : ℕ → ℕ → Bounds → Compact → List Float → List Float → List Break → Segment → Option (List Float)
walk zero n b c x g bs (ended r) = r
walk zero n b c x g bs (onward p) = None
walk (suc left) n b c x g bs (ended r) = r
walk (suc left) n b c x g bs (onward p) = walk left n b c x g bs (segment n b c x g bs p)

abbrev pub path_start : ℕ → Bounds → List Float → List Float → Path
path_start n b x g = path (tab n (velocity b x g)) (zeros n) (tab n (λ i. nan)) zero64 0

-- `generalized_cauchy`
unfoldable pub generalized_cauchy : ℕ → Bounds → Compact → List Float → List Float → Option (List Float)
generalized_cauchy n b c x g =
    let bs = breaks_of n b x g in
    walk (n + 1) n b c x g bs (segment n b c x g bs (path_start n b x g))

-- ---- `primal_minimize`: over the coordinates of p strictly between their bounds

-- `free_indices`
abbrev pub free : Bounds → List Float → ℕ → Bool
free b p i = Ieee.lt (word b.lower i) (word p i) && Ieee.lt (word p i) (word b.upper i)

abbrev pub any_free : ℕ → Bounds → List Float → Bool
any_free n b p = fold_to n (λ i a. a || free b p i) false

-- a sum over the free coordinates, from the left and from -0
unfoldable pub free_sum : ℕ → Bounds → List Float → (ℕ → Float) → Float
free_sum n b p f = fold_to n (λ i s. cond (free b p i) (plus s (f i)) s) neg_zero

-- the steps of the free coordinates, and 0 for the others
abbrev pub free_steps : ℕ → Bounds → List Float → (ℕ → Float) → List Float
free_steps n b p f = tab n (λ i. cond (free b p i) (f i) zero64)

abbrev pub reduced_entry : ℕ → Bounds → List Float → Compact → ℕ → ℕ → Float
reduced_entry n b p c i j = minus (block_entry n c i j) (over (free_sum n b p (λ k. times (column_word c i k) (column_word c j k))) c.theta)

abbrev pub reduced_right : ℕ → Bounds → List Float → Compact → List Float → List Float
reduced_right n b p c r = padded zero64 (2 * count c) (λ i. free_sum n b p (λ k. times (column_word c i k) (word r k)))

-- what the weights z add to the residual at coordinate i
abbrev pub correction : Compact → List Float → ℕ → Float
correction c z i = sum (2 * count c) (λ k. times (column_word c k i) (word z k))

unfoldable pub steps_with_pairs : ℕ → Bounds → List Float → Compact → List Float → Option (List Float)
steps_with_pairs n b p c r =
    solve (2 * count c) (padded_rows c (reduced_entry n b p c)) (reduced_right n b p c r) and_then λ z.
    Some (free_steps n b p (λ i. over (Ieee.neg (plus (word r i) (over (correction c z i) c.theta))) c.theta))

abbrev pub steps_of : ℕ → Bounds → List Float → Compact → List Float → Option (List Float)
steps_of n b p c r =
    cond (eqb (count c) 0) (Some (free_steps n b p (λ i. over (Ieee.neg (word r i)) c.theta))) (steps_with_pairs n b p c r)

-- how far coordinate i lets the step go
abbrev pub shortened : Bounds → List Float → List Float → ℕ → Float → Float
shortened b p steps i alpha =
    cond (Ieee.lt zero64 (word steps i)) (min alpha (over (minus (word b.upper i) (word p i)) (word steps i)))
    (cond (Ieee.lt (word steps i) zero64) (min alpha (over (minus (word b.lower i) (word p i)) (word steps i))) alpha)

unfoldable pub share_of : ℕ → Bounds → List Float → List Float → Float
share_of n b p steps = fold_to n (λ i alpha. cond (free b p i) (shortened b p steps i alpha) alpha) one64

unfoldable pub moved : ℕ → Bounds → List Float → List Float → Float → Option (List Float)
moved n b p steps alpha =
    finite_only n (tab n (λ i. cond (free b p i) (in_box b i (plus (word p i) (times alpha (word steps i)))) (word p i)))

abbrev pub moved_by : ℕ → Bounds → List Float → List Float → Option (List Float)
moved_by n b p steps = cond (all_finite n steps) (moved n b p steps (share_of n b p steps)) None

-- from the residual r, the model's gradient at p
abbrev pub on_free : ℕ → Bounds → List Float → Compact → List Float → Option (List Float)
on_free n b p c r = steps_of n b p c r and_then moved_by n b p

abbrev pub residual : ℕ → Compact → List Float → List Float → List Float → Option (List Float)
residual n c x g p = product n c (difference n p x) and_then λ bz. Some (tab n (λ i. plus (word bz i) (word g i)))

unfoldable pub primal_minimize : ℕ → Bounds → Compact → List Float → List Float → List Float → Option (List Float)
primal_minimize n b c x g p = cond (any_free n b p) (residual n c x g p and_then on_free n b p c) (Some p)
