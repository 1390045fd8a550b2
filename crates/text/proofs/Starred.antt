-- What the report program prints for document 01's first starred case: its six lines, byte by byte. Assumes nothing.
use Prim.Native.Nat.{ℕ}
use mathlib.Core.Path.{◌≡◌, refl, ap, ◌∙◌}
use mathlib.Core.List.{List, [], ◌∷◌}
use lib.Ieee.{to_bits}
use Rattle.definition.specs.Number.{zero64}
use Rattle.definition.specs.Book.{book}
use Rattle.definition.specs.Record.{record_bytes}
use Rattle.definition.specs.Programs.{Printed, printed}
use Rattle.definition.specs.Starred.{reported, parabola, parabola_replies}
use Rattle.definition.proofs.Starred.{every_starred_case}
use Rattle.text.specs.Text.{decimal_to, decimal, hexadecimal, count_line, float_line, point_lines, report_lines, text_of}

abbrev pub starred_text : List ℕ
starred_text =
    -- status 1
    115 ∷ 116 ∷ 97 ∷ 116 ∷ 117 ∷ 115 ∷ 32 ∷ 49 ∷ 10
    -- nit 1
    ∷ 110 ∷ 105 ∷ 116 ∷ 32 ∷ 49 ∷ 10
    -- nfev 2
    ∷ 110 ∷ 102 ∷ 101 ∷ 118 ∷ 32 ∷ 50 ∷ 10
    -- njev 2
    ∷ 110 ∷ 106 ∷ 101 ∷ 118 ∷ 32 ∷ 50 ∷ 10
    -- fun 0000000000000000
    ∷ 102 ∷ 117 ∷ 110 ∷ 32 ∷ 48 ∷ 48 ∷ 48 ∷ 48 ∷ 48 ∷ 48 ∷ 48 ∷ 48 ∷ 48 ∷ 48 ∷ 48 ∷ 48 ∷ 48 ∷ 48 ∷ 48 ∷ 48 ∷ 10
    -- x 0000000000000000
    ∷ 120 ∷ 32 ∷ 48 ∷ 48 ∷ 48 ∷ 48 ∷ 48 ∷ 48 ∷ 48 ∷ 48 ∷ 48 ∷ 48 ∷ 48 ∷ 48 ∷ 48 ∷ 48 ∷ 48 ∷ 48 ∷ 10
    ∷ []

starred_lines : text_of (Printed.lines (reported 1 1 2 2 zero64 zero64)) ≡ starred_text
unfolding report_lines count_line float_line point_lines decimal decimal_to hexadecimal to_bits
starred_lines = refl

pub starred_text_lem : text_of (printed (record_bytes (book parabola parabola_replies))) ≡ starred_text
starred_text_lem = ap text_of every_starred_case.0 ∙ starred_lines
