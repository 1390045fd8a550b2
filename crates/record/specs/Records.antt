-- What reading a record answers, over the definition's `read_record` and the structs of the code; how long setups and entries are.
use Rattle.std.specs.Prelude.{◌≡◌, ℕ, ◌+◌, ◌-◌, ◌*◌, ◌/◌, ◌≤◌, Bool, true, cond, not, ◌&&◌, List, [], ◌∷◌, ◌++◌, map, length, take, drop, replicate}
use Rattle.std.specs.Prelude.{◌==◌, nat_le, nat_lt, slice_index, slice_index_or, Float}
use Rattle.std.specs.Prelude.{None, Result, Ok, Err}
use Rattle.definition.specs.Number.{to_float, zero64}
use Rattle.definition.specs.Problem as D
use Rattle.definition.specs.Problem.{validate, area_needed, most_coordinates, or_else}
use Rattle.definition.specs.Log.{entries_of}
use Rattle.definition.specs.Record as R
use Rattle.definition.specs.Record.{words_of, framed, same_sums, malformed, n_in, maxcor_in, has_box, scheme_in, setup_length, floats_at}
use Rattle.definition.specs.Record.{float_given, count_given, optional_float, scheme_flag, Reading, read_record, reading_of}
use Rattle.problem.specs.declared.Options.{Options}
use Rattle.problem.specs.declared.Setup.{Setup}
use Rattle.problem.specs.Setups as P
use Rattle.problem.specs.declared.Refusal.{Refusal}
use Rattle.problem.specs.Setups.{scheme_of, refusal_of}
use Rattle.record.specs.declared.Sums.{Sums}
use Rattle.record.specs.declared.Frame.{Frame}
use Rattle.record.specs.declared.Parsed.{Parsed}

abbrev pub sums_of : Sums → R.Sums
sums_of sums = record { plain = sums.plain; running = sums.running }

-- ---- lengths

-- how many words a setup has: seven, the start, and with a box both of its sides
abbrev pub setup_size : Bool → ℕ → ℕ
setup_size box n = 7 + cond box (3 * n) n

-- how many an entry has by its kind, 0 where the kind is unknown
abbrev pub entry_size : ℕ → ℕ → ℕ
entry_size kind n =
    cond (kind == 1) 2
    (cond (kind == 2) (n + 1)
    (cond (kind == 0) 0
    (cond (nat_le kind 6) 1 0)))

-- ---- where a record stands

abbrev pub trailer_in : List ℕ → List ℕ
trailer_in bs = words_of 4 (drop (length bs - 32) bs)

abbrev pub framed_in : List ℕ → Bool
framed_in bs = not (nat_lt (length bs) 32) && framed (length bs) (trailer_in bs)

-- the words that bytes are, eight to a word
abbrev pub all_words : List ℕ → List ℕ
all_words bs = words_of (length bs / 8) bs

-- the words before the trailer
abbrev pub words_in : Frame → List ℕ
words_in frame = all_words frame.bytes.now

-- the bytes of as many words ahead of the trailer as it says
abbrev pub bytes_ahead : List ℕ → List ℕ
bytes_ahead bs =
    let count = slice_index_or (trailer_in bs) 3 0 in
    take (8 * count) (drop (length bs - 32 - 8 * count) bs)

-- the coordinates and the words of the setup are those of word 0
pub record Counted (frame : Frame) : Type 0 where
  pub n : frame.n ≡ n_in (slice_index (words_in frame) 0)
  pub setup : frame.setup ≡ setup_length (slice_index (words_in frame) 0)

-- the frame is that of the words ahead of the last four
pub record Placed (bs : List ℕ) (frame : Frame) : Type 0 where
  pub bytes : frame.bytes.now ≡ bytes_ahead bs
  pub counted : Counted frame

abbrev pub sums_agree : List ℕ → Frame → Bool
sums_agree bs frame = same_sums (words_in frame) (slice_index (trailer_in bs) 0) (slice_index (trailer_in bs) 1)

-- the bytes of the words behind the setup's
abbrev pub entry_bytes : Frame → List ℕ
entry_bytes frame = drop (8 * frame.setup) frame.bytes.now

-- ---- the setup

pub record OptionsIn (ws : List ℕ) (options : Options) : Type 0 where
  pub bounded : options.bounded ≡ has_box (slice_index ws 0)
  pub maxiter : options.maxiter ≡ count_given (slice_index ws 1)
  pub maxfev : options.maxfev ≡ count_given (slice_index ws 2)
  pub tol : options.tol ≡ float_given (slice_index ws 3)
  pub ftol : options.ftol ≡ float_given (slice_index ws 4)
  pub gtol : options.gtol ≡ float_given (slice_index ws 5)
  pub maxcor : options.maxcor ≡ count_given (maxcor_in (slice_index ws 0))
  pub eps : options.eps ≡ float_given (slice_index ws 6)
  pub scheme : scheme_of options.scheme ≡ scheme_in (slice_index ws 0)

-- how many floats three vectors have, of as many coordinates as a byte says
abbrev pub most_floats : ℕ
most_floats = 768

-- the floats of words, in an array of as many
unfoldable pub floats_of : List ℕ → List Float
floats_of ws = map to_float ws ++ replicate (most_floats - length ws) zero64

-- the setup by options and a record's words
abbrev pub setup_by : List ℕ → Options → ℕ → D.Setup
setup_by ws options n = P.setup_in options (floats_at ws 7 n) (floats_at ws (7 + n) n) (floats_at ws (7 + 2 * n) n)

-- the setup by options and three vectors of n words one behind the other
abbrev pub setup_from : Options → List Float → ℕ → D.Setup
setup_from options floats n = P.setup_in options (take n floats) (take n (drop n floats)) (take n (drop (2 * n) floats))

-- ---- the answer of the checks ahead of the entries

abbrev pub lengths : ℕ → ℕ → R.Lengths
lengths area room = record { area = area; log = room }

-- the setup is accepted and has its area, and the entries alone decide
pub record Opens (bs : List ℕ) (area : ℕ) (o : Options) (f : Frame) : Type 0 where
  pub placed : Placed bs f
  pub whole : f.setup ≤ length (words_in f)
  pub most : f.n ≤ most_coordinates
  pub options : OptionsIn (words_in f) o
  pub same : R.setup_in (words_in f) ≡ setup_by (words_in f) o f.n
  pub accepted : validate (R.setup_in (words_in f)) ≡ None
  pub room : area_needed (R.setup_in (words_in f)) ≤ area
  pub reads : (room : ℕ)
      → read_record (lengths area room) bs ≡ reading_of (R.setup_in (words_in f)) (entries_of (R.setup_in (words_in f)) room (drop f.setup (words_in f)))

-- refused as the definition refuses, whatever the room in the log; or the setup stands
abbrev pub Parsing : List ℕ → ℕ → Result Parsed Refusal → Type 0
Parsing bs area (Err refusal) = (room : ℕ) → read_record (lengths area room) bs ≡ Reading.refused (refusal_of refusal)
Parsing bs area (Ok parsed) = Opens bs area parsed.options parsed.frame

-- what the checks of some record found
abbrev pub HasOpened : ℕ → Parsed → Type 0
HasOpened area parsed = (bs : List ℕ) × Opens bs area parsed.options parsed.frame

-- ---- writing

-- word 0 of a setup of n coordinates
abbrev pub first_word : Options → ℕ → ℕ
first_word options n = n + 256 * or_else options.maxcor 0 + 65536 * (cond options.bounded 1 0 + scheme_flag (scheme_of options.scheme))

-- the seven words ahead of the vectors
abbrev pub leading_words : Options → ℕ → List ℕ
leading_words options n =
    first_word options n
    ∷ or_else options.maxiter 0
    ∷ or_else options.maxfev 0
    ∷ optional_float options.tol
    ∷ optional_float options.ftol
    ∷ optional_float options.gtol
    ∷ optional_float options.eps
    ∷ []

-- what every accepted setup keeps to
pub record Savable (options : Options) (x0 l u : List Float) : Type 0 where
  pub most : length x0 ≤ most_coordinates
  pub pairs : or_else options.maxcor 0 ≤ 255
  pub lower : options.bounded ≡ true → length l ≡ length x0
  pub upper : options.bounded ≡ true → length u ≡ length x0

-- a lent setup that keeps to it, and how many words it and a log are
abbrev pub CanSave : Setup → Type 0
CanSave setup = Savable setup.options setup.x0.now setup.lower.now setup.upper.now

abbrev pub saved_count : Setup → List ℕ → ℕ
saved_count setup log = setup_size setup.options.bounded (length setup.x0.now) + length log

-- the words before the trailer, and all of a record's
abbrev pub saved_words : D.Setup → List ℕ → List ℕ
saved_words setup log = R.setup_words setup ++ log

abbrev pub saved_record : D.Setup → List ℕ → List ℕ
saved_record setup log = saved_words setup log ++ R.trailer (saved_words setup log)

abbrev pub trailer_of : Sums → ℕ → List ℕ
trailer_of sums count = sums.plain ∷ sums.running ∷ R.written_version ∷ count ∷ []

-- bytes in place of as many of the first
abbrev pub overwritten : List ℕ → List ℕ → List ℕ
overwritten bs out = bs ++ drop (length bs) out

-- words are written, and their sums are at hand
pub record Summed (ws : List ℕ) (out : List ℕ) (t : Sums) (after : List ℕ) : Type 0 where
  pub written : after ≡ overwritten (R.bytes ws) out
  pub sums : sums_of t ≡ R.sums ws
