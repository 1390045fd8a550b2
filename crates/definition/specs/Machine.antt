-- The machine of a fit: its fields, what it asks, which replies are due, and its report.
use Rattle.std.specs.Prelude.{ℕ, ◌<◌, Bool, true, false, not, cond, ◌&&◌, ◌||◌, List, [], ◌∷◌, eqb, length, get_or, set, Float}
use Rattle.std.specs.Prelude.{Option, None, Some}
use Rattle.definition.specs.Problem.{Terms, Limits, Check, refuse, when, ◌then◌}
use Rattle.definition.specs.Compact.{Compact}
use Rattle.definition.specs.Counters.{Termination, Counters, status_number}
use Rattle.definition.specs.Gradient.{Probes, probes_at}
use Rattle.definition.specs.Search.{Search}

-- ---- questions and replies

-- an entry of the log; floats stand as their words
pub data Reply : Type 0 where
  value : ℕ → Reply
  gradient : List ℕ → Reply
  not_supplied : Reply
  go_on : Reply
  stop : Reply
  failure : Reply

-- the kind of a reply, the first word of its entry
abbrev pub reply_kind : Reply → ℕ
reply_kind (Reply.value v) = 1
reply_kind (Reply.gradient ws) = 2
reply_kind Reply.not_supplied = 3
reply_kind Reply.go_on = 4
reply_kind Reply.stop = 5
reply_kind Reply.failure = 6

-- the words that it brings, the rest of its entry
abbrev pub brought_words : Reply → List ℕ
brought_words (Reply.value v) = v ∷ []
brought_words (Reply.gradient ws) = ws
brought_words Reply.not_supplied = []
brought_words Reply.go_on = []
brought_words Reply.stop = []
brought_words Reply.failure = []

-- the word of a value
abbrev pub first_word : Reply → ℕ
first_word r = get_or (brought_words r) 0 0

abbrev pub is_value : Reply → Bool
is_value r = eqb (reply_kind r) 1

-- a reply to a gradient question: a gradient, or not supplied
abbrev pub is_gradient : Reply → Bool
is_gradient r = eqb (reply_kind r) 2 || eqb (reply_kind r) 3

-- a reply to a notice: go on, or stop
abbrev pub is_notice : Reply → Bool
is_notice r = eqb (reply_kind r) 4 || eqb (reply_kind r) 5

abbrev pub is_failure : Reply → Bool
is_failure r = eqb (reply_kind r) 6

-- 1 value, 2 gradient, 3 iteration notice
pub record Question : Type 0 where
  pub kind : ℕ
  pub point : List Float

-- ---- the machine

pub record State : Type 0 where
  pub x : List Float
  pub f : Float
  pub g : List Float

pub data Place : Type 0 where
  start trial : Place

pub data Side : Type 0 where
  right left : Side

-- What is asked: the value at a place, its gradient, the value at a probe of coordinate i, the notice; or nothing more.
pub data Phase : Type 0 where
  value : Place → Phase
  gradient : Place → Phase
  probe : Place → ℕ → Side → Phase
  notice : Phase
  ended : Termination → Phase

pub record Machine : Type 0 where
  pub terms : Terms
  pub limits : Limits
  -- the point held, with its value and gradient
  pub held : State
  pub compact : Compact
  -- the point asked about, with its value and its gradient so far
  pub trial : State
  pub direction : List Float
  pub search : Search
  -- the value right of the coordinate that is probed
  pub right_value : Float
  -- the value held before the last move
  pub before : Float
  pub counters : Counters
  pub phase : Phase

abbrev pub state : List Float → Float → List Float → State
state x f g = record { x = x; f = f; g = g }

-- a machine by its fields, in their order
abbrev pub made : Terms → Limits → State → Compact → State → List Float → Search → Float → Float → Counters → Phase → Machine
made terms limits held compact tried direction searched right_value before counters phase = record {
  terms = terms;
  limits = limits;
  held = held;
  compact = compact;
  trial = tried;
  direction = direction;
  search = searched;
  right_value = right_value;
  before = before;
  counters = counters;
  phase = phase;
}

-- the machine with another value in one field
abbrev pub in_phase : Phase → Machine → Machine
in_phase p m = made m.terms m.limits m.held m.compact m.trial m.direction m.search m.right_value m.before m.counters p

abbrev pub counting : Counters → Machine → Machine
counting k m = made m.terms m.limits m.held m.compact m.trial m.direction m.search m.right_value m.before k m.phase

abbrev pub holding : State → Machine → Machine
holding h m = made m.terms m.limits h m.compact m.trial m.direction m.search m.right_value m.before m.counters m.phase

abbrev pub trying : State → Machine → Machine
trying t m = made m.terms m.limits m.held m.compact t m.direction m.search m.right_value m.before m.counters m.phase

abbrev pub with_compact : Compact → Machine → Machine
with_compact c m = made m.terms m.limits m.held c m.trial m.direction m.search m.right_value m.before m.counters m.phase

abbrev pub heading : List Float → Machine → Machine
heading d m = made m.terms m.limits m.held m.compact m.trial d m.search m.right_value m.before m.counters m.phase

abbrev pub searching : Search → Machine → Machine
searching r m = made m.terms m.limits m.held m.compact m.trial m.direction r m.right_value m.before m.counters m.phase

abbrev pub with_right : Float → Machine → Machine
with_right v m = made m.terms m.limits m.held m.compact m.trial m.direction m.search v m.before m.counters m.phase

abbrev pub ending : Termination → Machine → Machine
ending t m = in_phase (Phase.ended t) m

-- ---- what is asked and what is due

-- a probe is of one of n coordinates
abbrev pub InRange : Phase → ℕ → Type 0
InRange (Phase.value w) n = Unit {0}
InRange (Phase.gradient w) n = Unit {0}
InRange (Phase.probe w i side) n = i < n
InRange Phase.notice n = Unit {0}
InRange (Phase.ended t) n = Unit {0}

-- 0: nothing
abbrev pub kind_of : Phase → ℕ
kind_of (Phase.value w) = 1
kind_of (Phase.gradient w) = 2
kind_of (Phase.probe w i side) = 1
kind_of Phase.notice = 3
kind_of (Phase.ended t) = 0

-- the kind of the question that a reply, no failure, is for
abbrev pub kind_asked : Reply → ℕ
kind_asked r = cond (is_value r) 1 (cond (is_gradient r) 2 3)

-- a failure suits every question
abbrev pub suits : ℕ → Reply → Bool
suits kind r = cond (is_failure r) (not (eqb kind 0)) (eqb kind (kind_asked r))

abbrev pub takes : Machine → Reply → Bool
takes m r = suits (kind_of m.phase) r

abbrev pub check_length : ℕ → Reply → Check
check_length n r =
    when (eqb (reply_kind r) 2 && not (eqb (length (brought_words r)) n)) (refuse 14 n (length (brought_words r)))

-- ended, or the kind is not due; then the gradient's length
abbrev pub check_due : Machine → Reply → Check
check_due m r = when (not (takes m r)) (refuse 13 0 0) then check_length m.terms.n r

abbrev pub probe_point : Probes → Side → ℕ → List Float → List Float
probe_point Probes.neither side i x = x
probe_point (Probes.both r l) Side.right i x = set x i r
probe_point (Probes.both r l) Side.left i x = set x i l
probe_point (Probes.right_only r) side i x = set x i r
probe_point (Probes.left_only l) side i x = set x i l

abbrev pub question_in : Machine → Phase → Option Question
question_in m (Phase.value w) = Some (record { kind = 1; point = m.trial.x })
question_in m (Phase.gradient w) = Some (record { kind = 2; point = m.trial.x })
question_in m (Phase.probe w i side) = Some (record { kind = 1; point = probe_point (probes_at m.terms m.trial.x i) side i m.trial.x })
question_in m Phase.notice = Some (record { kind = 3; point = m.held.x })
question_in m (Phase.ended t) = None

abbrev pub question : Machine → Option Question
question m = question_in m m.phase

-- ---- the report

pub record Report : Type 0 where
  pub status : ℕ
  pub point : List Float
  pub value : Float
  pub nit : ℕ
  pub nfev : ℕ
  pub njev : ℕ
  pub drawn : ℕ

-- 0: running
abbrev pub status_of : Phase → ℕ
status_of (Phase.value w) = 0
status_of (Phase.gradient w) = 0
status_of (Phase.probe w i side) = 0
status_of Phase.notice = 0
status_of (Phase.ended t) = status_number t

-- no value reply yet, or the objective failed: no report
abbrev pub unreported : Phase → Bool
unreported (Phase.value Place.start) = true
unreported (Phase.value Place.trial) = false
unreported (Phase.gradient w) = false
unreported (Phase.probe w i side) = false
unreported Phase.notice = false
unreported (Phase.ended t) = eqb (status_number t) 8

-- `drawn`, added, is how many values cost a drawing; it is not the machine's, and whoever reports says it
abbrev pub report : ℕ → Machine → Report
report drawn m = record {
  status = status_of m.phase;
  point = m.held.x;
  value = m.held.f;
  nit = m.counters.nit;
  nfev = m.counters.nfev;
  njev = m.counters.njev;
  drawn = drawn;
}

-- every value charged costs a drawing
abbrev pub report_now : Machine → Report
report_now m = report m.counters.nfev m
