-- The text that the report program prints, in ASCII bytes. Every line ends with a newline.
use Rattle.std.specs.Prelude.{ℕ, zero, suc, ◌/◌, ◌%◌, cond, List, [], ◌∷◌, ◌++◌, ltb, Float}
use Rattle.definition.specs.Number.{to_word}
use Rattle.definition.specs.Machine.{Report}
use Rattle.definition.specs.Programs.{Printed}
use Rattle.io.specs.Digits.{hex_digit_ascii, last_digits}

-- ---- numbers

-- n in decimal digits, at most k + 1 of them: the last, behind those of the tenth where that is not 0
unfoldable pub decimal_to : ℕ → ℕ → List ℕ
decimal_to zero n = hex_digit_ascii (n % 10) ∷ []
decimal_to (suc k) n = cond (ltb n 10) [] (decimal_to k (n / 10)) ++ (hex_digit_ascii (n % 10) ∷ [])

-- a number has no more than n + 1 digits
unfoldable pub decimal : ℕ → List ℕ
decimal n = decimal_to n n

-- 16 digits, the letters in lower case
unfoldable pub hexadecimal : ℕ → List ℕ
hexadecimal w = last_digits 16 16 w

-- ---- words, each with a space behind it

abbrev pub refused_word : List ℕ
refused_word = 114 ∷ 101 ∷ 102 ∷ 117 ∷ 115 ∷ 101 ∷ 100 ∷ 32 ∷ []

abbrev pub status_word : List ℕ
status_word = 115 ∷ 116 ∷ 97 ∷ 116 ∷ 117 ∷ 115 ∷ 32 ∷ []

abbrev pub nit_word : List ℕ
nit_word = 110 ∷ 105 ∷ 116 ∷ 32 ∷ []

abbrev pub nfev_word : List ℕ
nfev_word = 110 ∷ 102 ∷ 101 ∷ 118 ∷ 32 ∷ []

abbrev pub njev_word : List ℕ
njev_word = 110 ∷ 106 ∷ 101 ∷ 118 ∷ 32 ∷ []

abbrev pub fun_word : List ℕ
fun_word = 102 ∷ 117 ∷ 110 ∷ 32 ∷ []

abbrev pub x_word : List ℕ
x_word = 120 ∷ 32 ∷ []

-- ---- lines

abbrev pub newline : List ℕ
newline = 10 ∷ []

unfoldable pub count_line : List ℕ → ℕ → List ℕ
count_line name n = name ++ decimal n ++ newline

unfoldable pub float_line : List ℕ → Float → List ℕ
float_line name x = name ++ hexadecimal (to_word x) ++ newline

-- a line a coordinate
unfoldable pub point_lines : List Float → List ℕ
point_lines [] = []
point_lines (v ∷ x) = float_line x_word v ++ point_lines x

unfoldable pub report_lines : Report → List ℕ
report_lines r =
    count_line status_word r.status
    ++ count_line nit_word r.nit
    ++ count_line nfev_word r.nfev
    ++ count_line njev_word r.njev
    ++ float_line fun_word r.value
    ++ point_lines r.point

abbrev pub text_of : Printed → List ℕ
text_of (Printed.refused k) = count_line refused_word k
text_of (Printed.lines r) = report_lines r
