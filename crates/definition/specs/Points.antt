-- The words of the theorems on points and values, for an accepted setup and replies that were due. Lists of replies stand newest first.
use Rattle.std.specs.Prelude.{ℕ, ◌<◌, ◌≡◌, Bool, true, false, not, cond, ◌&&◌, List, [], ◌∷◌, ◌++◌, T, eqb, set, Float}
use Rattle.std.specs.Prelude.{Option, None, Some}
use Rattle.std.specs.Float.Ieee.{lt, le}
use Rattle.std.specs.Float.Ieee.Scale.{finite}
use Rattle.definition.specs.Number.{to_float, zero64, step_limit}
use Rattle.definition.specs.Vector.{word}
use Rattle.definition.specs.Problem.{Setup, Bounds, Terms, projected_start}
use Rattle.definition.specs.Gradient.{Probes}
use Rattle.definition.specs.Machine.{Reply, Place, Side, Phase, Machine, kind_of, question, unreported}
use Rattle.definition.specs.Driver.{answer, run}
use Rattle.definition.specs.Replies.{first_value}

-- there is a value, and no failure
abbrev pub Reported : Setup → List Reply → Type 0
Reported s rs = unreported (run s rs).phase ≡ false

-- ---- the point held and its value

abbrev pub at_notice : Phase → Bool
at_notice p = eqb (kind_of p) 3

abbrev pub is_trial : Place → Bool
is_trial Place.start = false
is_trial Place.trial = true

-- a trial is asked about: the step search asks its value
abbrev pub at_trial : Phase → Bool
at_trial (Phase.value w) = is_trial w
at_trial (Phase.gradient w) = false
at_trial (Phase.probe w i side) = false
at_trial Phase.notice = false
at_trial (Phase.ended t) = false

-- the reply takes the trial: the search hands back its step, and the driver moves there and gives notice
abbrev pub takes_trial : Machine → Reply → Bool
takes_trial m r = at_notice (answer m r).phase && not (at_notice m.phase)

-- the last trial taken
unfoldable pub last_taken : Setup → List Reply → Option (List Float)
last_taken s [] = None
last_taken s (r ∷ rs) = cond (takes_trial (run s rs) r) (Some (run s rs).trial.x) (last_taken s rs)

-- none of the replies `later`, given after `earlier`, is of this kind
abbrev pub NoneOf : (Machine → Reply → Bool) → Setup → List Reply → List Reply → Type 0
NoneOf kind s [] earlier = Unit {0}
NoneOf kind s (r ∷ later) earlier = (kind (run s (later ++ earlier)) r ≡ false) × NoneOf kind s later earlier

-- Among the replies the value f was given at the point x, to that point's own value question: the start's, or a trial's.
pub record GivenAt (place : Place) (s : Setup) (rs : List Reply) (x : List Float) (f : Float) : Type 0 where
  pub word : ℕ
  pub later : List Reply
  pub earlier : List Reply
  pub split : rs ≡ later ++ Reply.value word ∷ earlier
  pub asked : (run s earlier).phase ≡ Phase.value place
  pub point : question (run s earlier) ≡ Some (record { kind = 1; point = x })
  pub value : f ≡ to_float word

-- The trial whose value was given after `earlier` is the last one taken:
-- no other trial is asked about between its value and the reply that takes it, and no reply after that takes another.
pub record TakenLast (s : Setup) (earlier later : List Reply) : Type 0 where
  pub after : List Reply
  pub taking : Reply
  pub between : List Reply
  pub split : later ≡ after ++ taking ∷ between
  pub same : NoneOf (λ m r. at_trial m.phase) s between earlier
  pub takes : takes_trial (run s (between ++ earlier)) taking ≡ true
  pub last : NoneOf takes_trial s after (taking ∷ between ++ earlier)

-- x is the clipped start, and f the first value reply
pub record StartHeld (s : Setup) (rs : List Reply) (x : List Float) (f : Float) : Type 0 where
  pub point : x ≡ projected_start s
  pub given : GivenAt Place.start s rs x f
  pub first : first_value rs ≡ Some given.word

-- x is the last trial taken, and f the reply to that trial's own question
pub record TrialHeld (taken : List Float) (s : Setup) (rs : List Reply) (x : List Float) (f : Float) : Type 0 where
  pub point : x ≡ taken
  pub given : GivenAt Place.trial s rs x f
  pub last : TakenLast s (Reply.value given.word ∷ given.earlier) given.later

-- the one or the other, by the last trial taken
abbrev pub OwnOf : Option (List Float) → Setup → List Reply → List Float → Float → Type 0
OwnOf None = StartHeld
OwnOf (Some taken) = TrialHeld taken

-- ---- the box

-- v lies within the bounds of coordinate i
abbrev pub Within : Bounds → ℕ → Float → Type 0
Within b i v = T (le (word b.lower i) v) × T (le v (word b.upper i))

-- each coordinate of x lies within its bounds
abbrev pub InBox : Terms → List Float → Type 0
InBox t x = (i : ℕ) → i < t.n → Within t.bounds i (word x i)

-- each of the first n places of v is finite
abbrev pub EachFinite : ℕ → List Float → Type 0
EachFinite n v = (i : ℕ) → i < n → T (finite (word v i))

-- the bounds are in order
abbrev pub BoundsOrdered : Terms → Type 0
BoundsOrdered t = (i : ℕ) → i < t.n → T (le (word t.bounds.lower i) (word t.bounds.upper i))

-- ---- the search

-- a search runs: a value, the gradient or a probe is asked at its trial
abbrev pub searching : Phase → Bool
searching (Phase.value w) = is_trial w
searching (Phase.gradient w) = is_trial w
searching (Phase.probe w i side) = is_trial w
searching Phase.notice = false
searching (Phase.ended t) = false

-- While it runs the point held, its gradient and the direction are finite, and the step is positive and at most 10 ^ 10.
pub record SearchRuns (n : ℕ) (m : Machine) : Type 0 where
  pub point : EachFinite n m.held.x
  pub gradient : EachFinite n m.held.g
  pub direction : EachFinite n m.direction
  pub positive : T (lt zero64 m.search.alpha)
  pub at_most : T (le m.search.alpha step_limit)

-- ---- probes

-- the probes of a coordinate ask on this side
abbrev pub asks : Probes → Side → Bool
asks Probes.neither side = false
asks (Probes.both r l) side = true
asks (Probes.right_only r) Side.right = true
asks (Probes.right_only r) Side.left = false
asks (Probes.left_only l) Side.right = false
asks (Probes.left_only l) Side.left = true

-- v lies to the right, or to the left, of x
abbrev pub beyond : Side → Float → Float → Bool
beyond Side.right x v = lt x v
beyond Side.left x v = lt v x

-- The point is x with coordinate i moved to its side, to a finite value within the bounds.
pub record ProbeOf (t : Terms) (x : List Float) (i : ℕ) (side : Side) (point : List Float) : Type 0 where
  pub coordinate : i < t.n
  pub to : Float
  pub moved : point ≡ set x i to
  pub finite : T (finite to)
  pub beyond : T (beyond side (word x i) to)
  pub within : Within t.bounds i to
