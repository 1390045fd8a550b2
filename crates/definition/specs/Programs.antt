-- What the report program and the C entry answer to a record's bytes.
use Rattle.std.specs.Prelude.{ℕ, ◌+◌, ◌*◌, ◌^◌, cond, List, [], map, eqb, ltb, length, Float}
use Rattle.std.specs.Prelude.{Option, None, Some}
use Rattle.definition.specs.Number.{to_word}
use Rattle.definition.specs.Problem.{most_pairs, area_words}
use Rattle.definition.specs.Machine.{Machine, Report, Question, report_now, question, unreported, status_of}
use Rattle.definition.specs.Book.{run_of}
use Rattle.definition.specs.Record.{Lengths, Reading, plain_refusal, read_record, bytes}

-- an area and a log that are never too short
abbrev pub plenty : Lengths
plenty = record { area = 2 ^ 32; log = 2 ^ 32 }

abbrev pub most_bytes : ℕ
most_bytes = 65_536

-- the most coordinates of an input, whatever the limit on a setup; an area for them, and a log for as many words as the bytes have
abbrev pub input_coordinates : ℕ
input_coordinates = 64

abbrev pub input_area : ℕ
input_area = area_words input_coordinates most_pairs

abbrev pub input_log : ℕ
input_log = 8_192

-- over 65,536 bytes is 17, checked first
unfoldable pub read_input : List ℕ → Reading
read_input bs = cond (ltb most_bytes (length bs)) (Reading.refused (plain_refusal 17)) (read_record plenty bs)

-- ---- the report program: the lines of the report as numbers, or the number of the refusal

pub data Printed : Type 0 where
  refused : ℕ → Printed
  lines : Report → Printed

abbrev pub printed_fit : Machine → Printed
printed_fit m = cond (unreported m.phase) (Printed.refused 15) (Printed.lines (report_now m))

abbrev pub printed_of : Reading → Printed
printed_of (Reading.accepted b) = printed_fit (run_of b)
printed_of (Reading.refused c) = Printed.refused c.number
printed_of (Reading.refused_at_entry c) = Printed.refused c.number

abbrev pub printed : List ℕ → Printed
printed bs = printed_of (read_input bs)

-- ---- the C entry: the number that it returns, and the bytes that it writes

pub record Returned : Type 0 where
  pub number : ℕ
  pub output : List ℕ

-- a point into an output slice of `room` bytes
abbrev pub return_point : ℕ → ℕ → List Float → Returned
return_point room number x =
    cond (ltb room (8 * length x)) (record { number = 119; output = [] }) (record { number = number; output = bytes (map to_word x) })

-- ended: the held point, and nothing where the objective failed
abbrev pub return_end : ℕ → Machine → Returned
return_end room m = cond (eqb (status_of m.phase) 8) (record { number = 0; output = [] }) (return_point room 0 m.held.x)

abbrev pub return_fit : ℕ → Machine → Option Question → Returned
return_fit room m None = return_end room m
return_fit room m (Some q) = return_point room q.kind q.point

abbrev pub return_of : ℕ → Reading → Returned
return_of room (Reading.accepted b) = return_fit room (run_of b) (question (run_of b))
return_of room (Reading.refused c) = record { number = 100 + c.number; output = [] }
return_of room (Reading.refused_at_entry c) = record { number = 100 + c.number; output = [] }

abbrev pub returned : ℕ → List ℕ → Returned
returned room bs = return_of room (read_input bs)
