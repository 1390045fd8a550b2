-- What std prints of a number is what the definition says; the lines of a report. Assumes nothing.
use Prim.Native.Nat.{ℕ, zero, suc, ◌+◌, ◌/◌, ◌%◌, ◌^◌, ◌≤◌, ◌<◌}
use mathlib.Core.Path.{◌≡◌, refl, sym, ap, ◌∙◌}
use mathlib.Core.List.{List, [], ◌∷◌, ◌++◌, append-nil, append_assoc}
use native.Mathlib.Numerals.{add-one}
use native.Mathlib.Omega.{arith}
use borrow.Author.Tests.{lt-ltb, le-ltb}
use lib.Seq.{take-suc}
use lib.Ieee.{Float}
use lib.ListN.{length, get_or, take}
use Rattle.std.specs.Fmt as F
use Rattle.std.specs.Fmt.{digits}
use Rattle.std.proofs.lemmas.Fmt.{AppendsLastDigit, decimal_from_appends, length-decimal-le_succ}
use Rattle.io.specs.Digits.{hex_digit_ascii, last_digits}
use Rattle.definition.specs.Number.{to_word}
use Rattle.question.specs.Reports.{report_of, status_in}
use Rattle.question.specs.declared.Outcome.{Outcome}
use Rattle.text.specs.Text.{decimal_to, decimal, hexadecimal, status_word, nit_word, nfev_word, njev_word, fun_word, x_word, newline}
use Rattle.text.specs.Text.{count_line, float_line, point_lines, report_lines}

-- ---- `{}`

up_to : ℕ → ℕ → List ℕ
up_to zero n = []
up_to (suc k) n = decimal_to k n

appends : AppendsLastDigit up_to
unfolding up_to decimal_to
appends = record { one = one; more = more }
  where
    digit : (n : ℕ) → hex_digit_ascii (n % 10) ≡ 48 + n % 10
    digit n = rw (lt-ltb (n % 10) 10 (omega arith)) refl

    one : (k n : ℕ) → n < 10 → decimal_to k n ≡ (48 + n) ∷ []
    one zero n h = let same : n % 10 ≡ n = omega arith in rw (digit n, same) refl
    one (suc k) n h = let same : n % 10 ≡ n = omega arith in rw (lt-ltb n 10 h, digit n, same) refl

    more : (k n : ℕ) → 10 ≤ n → decimal_to k n ≡ up_to k (n / 10) ++ ((48 + n % 10) ∷ [])
    more zero n h = rw (digit n) refl
    more (suc k) n h = rw (le-ltb n 10 h, digit n) refl

pub decimal_is : (n : ℕ) → n < 2 ^ 64 → F.decimal n ≡ decimal n
unfolding up_to decimal
decimal_is n h = sym (decimal_from_appends up_to appends (suc n) n h (omega (arith, length-decimal-le_succ n h)))

-- ---- lines

-- 16 digits
pub hexadecimal_is : (digits : List ℕ) (r n : ℕ) → 16 ≤ r → r ≤ 16 → take r digits ≡ last_digits 16 r n → take r digits ≡ hexadecimal n
unfolding hexadecimal
hexadecimal_is digits r n l h e =
    let q : r ≡ 16 = omega arith in
    e ∙ ap (λ (k : ℕ). last_digits 16 k n) q

pub counted : (name d : List ℕ) (n : ℕ) → n < 2 ^ 64 → d ≡ F.decimal n → name ++ d ++ newline ≡ count_line name n
unfolding count_line
counted name d n h e = rw (e, decimal_is n h) refl

pub valued : (name d : List ℕ) (x : Float) → d ≡ hexadecimal (to_word x) → name ++ d ++ newline ≡ float_line name x
unfolding float_line
valued name d x e = rw e refl

pub header : (o : Outcome) {s : ℕ} {t₀ t₁ t₂ t₃ t₄ t₅ : List ℕ} → s ≡ status_in o.termination → t₀ ≡ [] → t₁ ≡ t₀ ++ count_line status_word s
    → t₂ ≡ t₁ ++ count_line nit_word o.nit → t₃ ≡ t₂ ++ count_line nfev_word o.nfev → t₄ ≡ t₃ ++ count_line njev_word o.njev
    → t₅ ≡ t₄ ++ float_line fun_word o.value → t₅ ≡ report_lines (report_of o [])
unfolding report_lines point_lines
header o e h₀ h₁ h₂ h₃ h₄ h₅ = rw (h₅, h₄, h₃, h₂, h₁, h₀, e) (simp (append_assoc, append-nil) refl)

point_more : (x : List Float) (v : Float) → point_lines (x ++ (v ∷ [])) ≡ point_lines x ++ float_line x_word v
unfolding point_lines
point_more [] v = append-nil (float_line x_word v)
point_more (w ∷ x) v =
    ap (λ (t : List ℕ). float_line x_word w ++ t) (point_more x v)
    ∙ sym (append_assoc (float_line x_word w) (point_lines x) (float_line x_word v))

pub more : {t t' : List ℕ} (o : Outcome) (x : List Float) (i : ℕ) (d : Float) → i < length x → t ≡ report_lines (report_of o (take i x))
    → t' ≡ t ++ float_line x_word (get_or x i d) → t' ≡ report_lines (report_of o (take (i + 1) x))
unfolding report_lines
more o x i d h e k = rw (k, e, add-one, take-suc x i d h, point_more) (append_assoc _ (point_lines (take i x)) _)
