-- The record: the setup's words, the log's, and a trailer of two sums, version and length; as bytes, little-endian.
use Rattle.std.specs.Prelude.{ℕ, zero, suc, ◌+◌, ◌-◌, ◌*◌, ◌/◌, ◌%◌, ◌^◌, Bool, not, cond, ◌&&◌, ◌||◌, List, []}
use Rattle.std.specs.Prelude.{◌∷◌, ◌++◌, map, eqb, ltb, leb, length, get_or, take, drop, Float}
use Rattle.std.specs.Prelude.{Option, None, Some}
use Rattle.definition.specs.Number.{to_float, to_word}
use Rattle.definition.specs.Problem.{Setup, Bounds, Scheme, Refusal, Check, refuse, when, ◌then◌, validate, dimension, area_needed, or_else}
use Rattle.definition.specs.Log.{Entries, entries_of}
use Rattle.definition.specs.Book.{Book, book, log_of}

-- ---- the setup in words

abbrev pub absent : ℕ
absent = 0x7FF8_0000_0000_0000

abbrev pub optional_float : Option Float → ℕ
optional_float None = absent
optional_float (Some v) = to_word v

abbrev pub box_flag : Option Bounds → ℕ
box_flag None = 0
box_flag (Some b) = 1

abbrev pub scheme_flag : Scheme → ℕ
scheme_flag Scheme.forward = 0
scheme_flag Scheme.central = 2

abbrev pub bound_words : Option Bounds → List ℕ
bound_words None = []
bound_words (Some b) = map to_word b.lower ++ map to_word b.upper

-- byte 0 n, byte 1 maxcor, byte 2 the flags
abbrev pub shape_word : Setup → ℕ
shape_word s = dimension s + 256 * or_else s.maxcor 0 + 65536 * (box_flag s.bounds + scheme_flag s.scheme)

unfoldable pub setup_words : Setup → List ℕ
setup_words s =
    shape_word s
    ∷ or_else s.maxiter 0
    ∷ or_else s.maxfev 0
    ∷ optional_float s.tol
    ∷ optional_float s.ftol
    ∷ optional_float s.gtol
    ∷ optional_float s.eps
    ∷ (map to_word s.x0 ++ bound_words s.bounds)

-- ---- the setup from words

abbrev pub float_given : ℕ → Option Float
float_given w = cond (eqb w absent) None (Some (to_float w))

abbrev pub count_given : ℕ → Option ℕ
count_given k = cond (eqb k 0) None (Some k)

-- the fields of word 0
abbrev pub n_in : ℕ → ℕ
n_in w = w % 256

abbrev pub maxcor_in : ℕ → ℕ
maxcor_in w = w / 256 % 256

abbrev pub has_box : ℕ → Bool
has_box w = eqb (w / 65536 % 2) 1

abbrev pub is_central : ℕ → Bool
is_central w = eqb (w / 131072 % 2) 1

abbrev pub spare_bits : ℕ → Bool
spare_bits w = leb 262144 w

abbrev pub setup_length : ℕ → ℕ
setup_length w = 7 + cond (has_box w) (3 * n_in w) (n_in w)

-- n floats from word k on
abbrev pub floats_at : List ℕ → ℕ → ℕ → List Float
floats_at ws k n = map to_float (take n (drop k ws))

abbrev pub bounds_in : List ℕ → ℕ → Option Bounds
bounds_in ws w =
    cond (has_box w) (Some (record { lower = floats_at ws (7 + n_in w) (n_in w); upper = floats_at ws (7 + 2 * n_in w) (n_in w) })) None

abbrev pub scheme_in : ℕ → Scheme
scheme_in w = cond (is_central w) Scheme.central Scheme.forward

unfoldable pub setup_in : List ℕ → Setup
setup_in ws = record {
  x0 = floats_at ws 7 (n_in (get_or ws 0 0));
  bounds = bounds_in ws (get_or ws 0 0);
  maxiter = count_given (get_or ws 1 0);
  maxfev = count_given (get_or ws 2 0);
  tol = float_given (get_or ws 3 0);
  ftol = float_given (get_or ws 4 0);
  gtol = float_given (get_or ws 5 0);
  maxcor = count_given (maxcor_in (get_or ws 0 0));
  eps = float_given (get_or ws 6 0);
  scheme = scheme_in (get_or ws 0 0);
}

-- ---- the trailer

pub record Sums : Type 0 where
  pub plain : ℕ
  pub running : ℕ

abbrev pub word_size : ℕ
word_size = 2 ^ 64

-- one more word: into the sum, and the sum into the sum of running sums
abbrev pub added : ℕ → Sums → Sums
added w t = record { plain = (t.plain + w) % word_size; running = (t.running + (t.plain + w) % word_size) % word_size }

unfoldable pub sums_from : List ℕ → Sums → Sums
sums_from [] t = t
sums_from (w ∷ ws) t = sums_from ws (added w t)

abbrev pub sums : List ℕ → Sums
sums ws = sums_from ws (record { plain = 0; running = 0 })

-- the version that is written, and those that are read
abbrev pub written_version : ℕ
written_version = 1

abbrev pub known_version : ℕ → Bool
known_version v = eqb v 1

abbrev pub trailer : List ℕ → List ℕ
trailer ws = (sums ws).plain ∷ (sums ws).running ∷ written_version ∷ length ws ∷ []

-- the record of a fit
unfoldable pub record_words : Book → List ℕ
record_words b = let ws = setup_words b.setup ++ log_of b in ws ++ trailer ws

-- ---- bytes

-- `count` bytes of a number, the lowest first
unfoldable pub bytes_of : ℕ → ℕ → List ℕ
bytes_of zero w = []
bytes_of (suc count) w = w % 256 ∷ bytes_of count (w / 256)

unfoldable pub bytes : List ℕ → List ℕ
bytes [] = []
bytes (w ∷ ws) = bytes_of 8 w ++ bytes ws

unfoldable pub number_of : List ℕ → ℕ
number_of [] = 0
number_of (b ∷ bs) = b + 256 * number_of bs

-- `count` words from the front of the bytes
unfoldable pub words_of : ℕ → List ℕ → List ℕ
words_of zero bs = []
words_of (suc count) bs = number_of (take 8 bs) ∷ words_of count (drop 8 bs)

unfoldable pub record_bytes : Book → List ℕ
record_bytes b = bytes (record_words b)

-- ---- reading in, into an area and a log of these lengths

pub record Lengths : Type 0 where
  pub area : ℕ
  pub log : ℕ

pub data Reading : Type 0 where
  accepted : Book → Reading
  refused : Refusal → Reading
  refused_at_entry : Refusal → Reading

abbrev pub plain_refusal : ℕ → Refusal
plain_refusal number = record { number = number; first = 0; second = 0 }

abbrev pub reading_of : Setup → Entries → Reading
reading_of s (Entries.kept rs) = Reading.accepted (book s rs)
reading_of s (Entries.refused_at c) = Reading.refused_at_entry (plain_refusal c)
reading_of s (Entries.going ws rs m) = Reading.refused_at_entry (plain_refusal 17)

abbrev pub check_area : Lengths → Setup → Check
check_area z s = when (ltb z.area (area_needed s)) (refuse 11 (area_needed s) 0)

abbrev pub same_sums : List ℕ → ℕ → ℕ → Bool
same_sums ws a b = eqb (sums ws).plain a && eqb (sums ws).running b

-- the setup is cut, or spare bits are set
abbrev pub malformed : List ℕ → Bool
malformed ws = ltb (length ws) (setup_length (get_or ws 0 0)) || spare_bits (get_or ws 0 0)

-- the sums, then the setup's form, then its rows, then the area
unfoldable pub check_words : Lengths → List ℕ → ℕ → ℕ → Check
check_words z ws a b =
    when (not (same_sums ws a b)) (refuse 18 0 0)
    then when (malformed ws) (refuse 17 0 0)
    then validate (setup_in ws)
    then check_area z (setup_in ws)

abbrev pub unless_refused : Check → Reading → Reading
unless_refused None r = r
unless_refused (Some c) r = Reading.refused c

-- the words before the trailer, with its two sums
unfoldable pub read_words : Lengths → List ℕ → ℕ → ℕ → Reading
read_words z ws a b =
    let s = setup_in ws in
    let rest = reading_of s (entries_of s z.log (drop (setup_length (get_or ws 0 0)) ws)) in
    unless_refused (check_words z ws a b) rest

-- the version is known, and L no larger than what stands ahead of the trailer
abbrev pub framed : ℕ → List ℕ → Bool
framed size t = known_version (get_or t 2 0) && leb (8 * get_or t 3 0) (size - 32)

-- the record stands at the end of the bytes; those ahead of it are ignored
abbrev pub read_trailed : Lengths → List ℕ → List ℕ → Reading
read_trailed z bs t =
    cond (framed (length bs) t)
    (read_words z (words_of (get_or t 3 0) (drop (length bs - 32 - 8 * get_or t 3 0) bs)) (get_or t 0 0) (get_or t 1 0))
    (Reading.refused (plain_refusal 17))

unfoldable pub read_record : Lengths → List ℕ → Reading
read_record z bs =
    cond (ltb (length bs) 32) (Reading.refused (plain_refusal 17))
    (read_trailed z bs (words_of 4 (drop (length bs - 32) bs)))
