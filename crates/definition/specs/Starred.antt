-- Document 01's starred cases as one list of statements, and beside it the orders that it warns of. A case of a fit is stated as what the report program
-- prints, or the C entry returns, for the record of its setup and replies: so the setup is accepted and each reply was due.
use Rattle.std.specs.Prelude.{ℕ, ◌≡◌, true, false, List, [], ◌∷◌, map, pos, replicate, drop, Float}
use Rattle.std.specs.Prelude.{Option, None, Some}
use Rattle.std.specs.Float.{nan, fin}
use Rattle.definition.specs.Number.{two_to, two_to_minus, zero64, one64, two64, infinity, neg_infinity, to_word}
use Rattle.definition.specs.Vector.{dot}
use Rattle.definition.specs.Problem.{Setup, Bounds, Scheme, refuse, validate}
use Rattle.definition.specs.Solve.{Matrix, pivot_of, solve}
use Rattle.definition.specs.Compact.{Compact, no_pairs, update}
use Rattle.definition.specs.Geometry.{Break, inserted}
use Rattle.definition.specs.Machine.{Reply, Report}
use Rattle.definition.specs.Book.{book}
use Rattle.definition.specs.Record.{bytes, record_bytes}
use Rattle.definition.specs.Programs.{Printed, printed, Returned, returned}

-- every statement of a list
abbrev pub All : List (Type 0) → Type 0
All [] = Unit {0}
All (t ∷ ts) = t × All ts

-- ---- setups with nothing but a start, a box and budgets

abbrev pub setup : List Float → Option Bounds → Option ℕ → Option ℕ → Setup
setup x b iterations values = record {
  x0 = x;
  bounds = b;
  maxiter = iterations;
  maxfev = values;
  tol = None;
  ftol = None;
  gtol = None;
  maxcor = None;
  eps = None;
  scheme = Scheme.forward;
}

-- one coordinate, between two bounds
abbrev pub between : Float → Float → Option Bounds
between l u = Some (record { lower = l ∷ []; upper = u ∷ [] })

abbrev pub boxed : Float → Float → Float → Setup
boxed x l u = setup (x ∷ []) (between l u) None None

abbrev pub four : Float
four = two_to 2

abbrev pub five : Float
five = fin false 5 (pos 0)

abbrev pub eight : Float
eight = two_to 3

abbrev pub minus_eight : Float
minus_eight = fin true 1 (pos 3)

abbrev pub minus_two : Float
minus_two = fin true 1 (pos 1)

abbrev pub minus_one : Float
minus_one = fin true 1 (pos 0)

-- one value and no more
abbrev pub frugal : Option Bounds → Setup
frugal b = setup (five ∷ []) b None (Some 1)

-- status, nit, nfev, njev, value, point: the order of the printed lines
abbrev pub reported : ℕ → ℕ → ℕ → ℕ → Float → Float → Report
reported status nit nfev njev f x =
    record { status = status; point = x ∷ []; value = f; nit = nit; nfev = nfev; njev = njev; drawn = nfev }

-- what the C entry returns where a value is asked at x: 1, and the bytes of x
abbrev pub value_asked : Float → Returned
value_asked x = record { number = 1; output = bytes (map to_word (x ∷ [])) }

-- ---- x² / 2, from 4, between -8 and 8

abbrev pub parabola : Setup
parabola = boxed four minus_eight eight

-- newest first
abbrev pub parabola_replies : List Reply
parabola_replies =
    Reply.go_on
    ∷ Reply.gradient (to_word zero64 ∷ [])
    ∷ Reply.value (to_word zero64)
    ∷ Reply.gradient (to_word four ∷ [])
    ∷ Reply.value (to_word eight)
    ∷ []

-- ---- pairs and pivots

-- one update in one coordinate, y = 1
abbrev pub one_pair : Float → Compact
one_pair s = update 1 10 no_pairs (s ∷ []) (one64 ∷ [])

abbrev pub rows : Float → Float → Float → Float → Matrix
rows a b c d = (a ∷ b ∷ []) ∷ (c ∷ d ∷ []) ∷ []

abbrev pub diagonal : Float → Option (List Float)
diagonal d = solve 2 (rows one64 zero64 zero64 d) (one64 ∷ one64 ∷ [])

-- no value but the first, 0, and no gradient supplied
abbrev pub unsupplied : List Reply
unsupplied = Reply.not_supplied ∷ Reply.value (to_word zero64) ∷ []

-- ---- the starred list

abbrev pub starred : List (Type 0)
starred =
    -- f = x² / 2: what the report program prints, as the numbers of its six lines; that `text_of` of them is document 01's text, byte by byte, is
    -- `starred_text_lem` of crate `text`, which defines the text. The second value is asked at 0
    (printed (record_bytes (book parabola parabola_replies)) ≡ Printed.lines (reported 1 1 2 2 zero64 zero64))
    ∷ (returned 8 (record_bytes (book parabola (drop 3 parabola_replies))) ≡ value_asked zero64)
    -- empty x0: 1; both bounds +inf: 6; lower 2, upper 1: 5
    ∷ (validate (setup [] None None None) ≡ refuse 1 0 0)
    ∷ (validate (boxed zero64 infinity infinity) ≡ refuse 6 0 0)
    ∷ (validate (boxed zero64 two64 one64) ≡ refuse 5 0 0)
    -- n = 64 accepted, 65 refused by 10
    ∷ (validate (setup (replicate 64 one64) None None None) ≡ None)
    ∷ (validate (setup (replicate 65 one64) None None None) ≡ refuse 10 1 0)
    -- start 5, box 0 to 2: first question at 2; first reply NaN: status 6, counts 0, 1, 0
    ∷ (returned 8 (record_bytes (book (boxed five zero64 two64) [])) ≡ value_asked two64)
    ∷ (printed (record_bytes (book (boxed five zero64 two64) (Reply.value (to_word nan) ∷ []))) ≡ Printed.lines (reported 6 0 1 0 nan two64))
    -- maxfev 1, n = 1, open box, value 0, gradient not supplied: status 4, njev 0; with lower = upper: status 1, njev 1
    ∷ (printed (record_bytes (book (frugal None) unsupplied)) ≡ Printed.lines (reported 4 0 1 0 zero64 five))
    ∷ (printed (record_bytes (book (frugal (between five five)) unsupplied)) ≡ Printed.lines (reported 1 0 1 1 zero64 five))
    -- s = 2 ^ -52, y = 1: pair dropped; s = 2 ^ -51: kept, theta 2 ^ 51
    ∷ (one_pair (two_to_minus 52) ≡ no_pairs)
    ∷ (one_pair (two_to_minus 51) ≡ record { pairs = record { s = two_to_minus 51 ∷ []; y = one64 ∷ [] } ∷ []; theta = two_to 51; oldest = 0 })
    -- rows (2, 1), (-2, 1), right side (0, 4): second row pivots, answer (-1, 2)
    ∷ (pivot_of 2 (rows two64 one64 minus_two one64) 0 ≡ 1)
    ∷ (solve 2 (rows two64 one64 minus_two one64) (zero64 ∷ four ∷ []) ≡ Some (minus_one ∷ two64 ∷ []))
    -- diagonal 1 and 2 ^ -46: refused; 1 and 2 ^ -45: solved
    ∷ (diagonal (two_to_minus 46) ≡ None)
    ∷ (diagonal (two_to_minus 45) ≡ Some (one64 ∷ two_to 45 ∷ []))
    ∷ []

-- ---- orders: "Ways to draw the wrong seam", and the readings that rest on an order

abbrev pub one_iteration : Setup
one_iteration = setup (four ∷ []) (between minus_eight eight) (Some 1) None

abbrev pub full_memory : Compact
full_memory = update 1 1 no_pairs (one64 ∷ []) (one64 ∷ [])

abbrev pub break : ℕ → Break
break i = record { time = one64; coordinate = i }

abbrev pub orders : List (Type 0)
orders =
    -- between a trial's value and its gradient the old point and value are held, and so they are while the gradient is probed
    (printed (record_bytes (book parabola (drop 2 parabola_replies))) ≡ Printed.lines (reported 0 0 2 1 eight four))
    ∷ (printed (record_bytes (book parabola (Reply.not_supplied ∷ drop 2 parabola_replies))) ≡ Printed.lines (reported 0 0 3 1 eight four))
    -- a pair that is not accepted costs no old one
    ∷ (update 1 1 full_memory (two_to_minus 52 ∷ []) (one64 ∷ []) ≡ full_memory)
    -- a sum starts at -0
    ∷ (dot 1 (zero64 ∷ []) (minus_one ∷ []) ≡ fin true 0 (pos 0))
    -- the iteration budget comes before convergence, and stop before both
    ∷ (printed (record_bytes (book one_iteration parabola_replies)) ≡ Printed.lines (reported 3 1 2 2 zero64 zero64))
    ∷ (printed (record_bytes (book one_iteration (Reply.stop ∷ drop 1 parabola_replies))) ≡ Printed.lines (reported 5 1 2 2 zero64 zero64))
    -- lower > upper comes before the bounds that admit no coordinate, and the lower side's NaN before the upper's
    ∷ (validate (boxed zero64 infinity neg_infinity) ≡ refuse 5 0 0)
    ∷ (validate (setup (zero64 ∷ zero64 ∷ []) (Some (record { lower = zero64 ∷ nan ∷ []; upper = nan ∷ zero64 ∷ [] })) None None) ≡ refuse 4 1 0)
    -- of equal break times the one inserted first comes first
    ∷ (inserted (break 1) (break 0 ∷ []) ≡ break 0 ∷ break 1 ∷ [])
    ∷ []
