-- Lengths: of the working area, of a log and of a record, for every accepted setup and replies that were due. Assumes nothing.
use Prim.Native.Nat.{ℕ, ◌+◌, ◌*◌, ◌≤◌, ◌<◌}
use native.Mathlib.Omega.{arith}
use native.Mathlib.Nat.{mul-add, add-mul, mul-le-mul, mul-le-mul_left}
use mathlib.Core.Path.{◌≡◌, ap, ◌∙◌}
use mathlib.Core.Bool.{cond}
use mathlib.Core.List.{List, [], ◌∷◌, ◌++◌}
use lib.ListN.{length, length-append}
use Rattle.definition.specs.Problem.{Setup, Terms, dimension, maxcor_of, limits_of, most_coordinates, most_pairs, area_words, area_needed}
use Rattle.definition.specs.Machine.{Reply, is_value, is_gradient, is_notice, is_failure}
use Rattle.definition.specs.Driver.{run}
use Rattle.definition.specs.Log.{entry_words, log_words}
use Rattle.definition.specs.Book.{Book, log_of}
use Rattle.definition.specs.Record.{word_size, setup_words, trailer, record_words, record_bytes}
use Rattle.definition.specs.Replies.{Accepted, Due, count_of}
use Rattle.definition.specs.Facts.{failed_of}
use Rattle.definition.proofs.Accepted.{accepted_in_limits, due_length}
use Rattle.definition.proofs.Bytes.{bytes-length}
use Rattle.definition.proofs.SetupWords.{setup_most}
use Rattle.definition.proofs.Counts.{terms_stay, counted, failures}

-- ---- the working area

pub area_bounded : (s : Setup) → Accepted s → area_needed s ≤ area_words most_coordinates most_pairs
area_bounded s a =
    let l = accepted_in_limits s a in
    let m = maxcor_of s in
    let k : 4 * m + 16 ≤ 4 * most_pairs + 16 = omega (arith, l.pairs.1) in
    let q : 4 * m ≤ 4 * most_pairs = omega (arith, l.pairs.1) in
    omega (arith, mul-le-mul l.coordinates.1 k, mul-le-mul q l.pairs.1, l.pairs.1)

-- ---- the words of a log

gradient_length : (s : Setup) (ws : List ℕ) (rs : List Reply) → Due s (Reply.gradient ws ∷ rs) → length ws ≡ dimension s
gradient_length s ws rs d = due_length (run s rs) ws d.0 ∙ ap (λ (t : Terms). t.n) (terms_stay s rs d.1)

pub entry_length : (s : Setup) (r : Reply) (rs : List Reply) → Accepted s → Due s (r ∷ rs) → length (entry_words r) ≤ dimension s + 1
entry_length s (Reply.value v) rs a d = omega (arith, (accepted_in_limits s a).coordinates.0)
entry_length s (Reply.gradient ws) rs a d = omega (arith, gradient_length s ws rs d)
entry_length s Reply.not_supplied rs a d = omega arith
entry_length s Reply.go_on rs a d = omega arith
entry_length s Reply.stop rs a d = omega arith
entry_length s Reply.failure rs a d = omega arith

-- what an entry costs, by its kind
entry_cost :
    (s : Setup) (r : Reply) (rs : List Reply) → Due s (r ∷ rs)
    → length (entry_words r)
    ≤ 2 * cond (is_value r) 1 0 + (dimension s + 1) * cond (is_gradient r) 1 0 + cond (is_notice r) 1 0 + cond (is_failure r) 1 0
entry_cost s (Reply.value v) rs d = omega arith
entry_cost s (Reply.gradient ws) rs d = omega (arith, gradient_length s ws rs d)
entry_cost s Reply.not_supplied rs d = omega arith
entry_cost s Reply.go_on rs d = omega arith
entry_cost s Reply.stop rs d = omega arith
entry_cost s Reply.failure rs d = omega arith

log_cost :
    (s : Setup) (rs : List Reply) → Due s rs
    → length (log_words rs) ≤ 2 * count_of is_value rs + (dimension s + 1) * count_of is_gradient rs + count_of is_notice rs + count_of is_failure rs
unfolding log_words count_of
log_cost s [] d = omega arith
log_cost s (r ∷ rs) d =
    let more = mul-add (dimension s + 1) (count_of is_gradient rs) (cond (is_gradient r) 1 0) in
    omega (arith, log_cost s rs d.1, entry_cost s r rs d, length-append (log_words rs) (entry_words r), more)

pub log_length : (s : Setup) (rs : List Reply) → Accepted s → Due s rs
    → length (log_words rs) ≤ (3 + dimension s) * (limits_of s).maxfev + (limits_of s).maxiter
log_length s rs a d =
    let h = counted s rs a d in
    let n = dimension s in
    let f = (limits_of s).maxfev in
    let g = count_of is_gradient rs in
    let failed = failed_of 2 s rs in
    let gradients : g + failed ≤ f = omega (arith, h.gradients, h.values, h.value_budget) in
    let words : (n + 1) * g + failed ≤ (n + 1) * f = omega (arith, mul-le-mul_left (n + 1) gradients, mul-add (n + 1) g failed, add-mul n 1 failed) in
    omega (arith, log_cost s rs d, words, failures s rs d, add-mul 3 n f, add-mul n 1 f)

-- ---- the words of a record

pub record_length : (b : Book) → length (record_words b) ≡ length (setup_words b.setup ++ log_of b) + 4
unfolding record_words
record_length b = length-append (setup_words b.setup ++ log_of b) (trailer (setup_words b.setup ++ log_of b))

-- what a record takes: 8 bytes a word, and besides the log's words at most those of a setup and 4 of the trailer
pub record_bytes_lem : (b : Book) → length (record_bytes b) ≡ 8 * length (record_words b)
unfolding record_bytes
record_bytes_lem b = bytes-length (record_words b)

pub record_most : (b : Book) → Accepted b.setup → length (record_words b) ≤ length (log_of b) + (11 + 3 * most_coordinates)
record_most b a = omega (arith, record_length b, length-append (setup_words b.setup) (log_of b), setup_most b.setup a)

pub record_fits : (b : Book) → Accepted b.setup → Due b.setup b.replies → length (record_words b) < word_size
record_fits b a d =
    let l = accepted_in_limits b.setup a in
    let n : 3 + dimension b.setup ≤ 3 + most_coordinates = omega (arith, l.coordinates.1) in
    omega (arith, record_most b a, log_length b.setup b.replies a d, mul-le-mul n l.maxfev.1, l.maxiter.1)
