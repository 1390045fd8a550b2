-- Every refusal has a number that document 01's table has for its place, from 1 to 19: those of a setup, of a record, of an input, and of every call of
-- a history. Assumes nothing.
use Prim.Native.Nat.{ℕ, zero, suc, ◌+◌, ◌-◌, ◌*◌, ◌≤◌}
use mathlib.Core.Path.{◌≡◌, refl, sym, subst}
use mathlib.Core.Bool.{Bool, true, false, false≢true, not, ◌&&◌, ◌||◌}
use mathlib.Core.List.{List, [], ◌∷◌}
use Rattle.std.specs.Prelude.{Option, None, Some}
use lib.Dec.{T, eqb, ltb, leb, leb→le, eqb→eq}
use lib.ListN.{length, get_or, drop}
use lib.Ieee as Ieee
use lib.Ieee.{Float, is_nan}
use lib.Ieee.Scale.{finite}
use lib.Ieee.Bits.{is_true}
use Rattle.definition.specs.Number.{zero64, infinity, neg_infinity}
use Rattle.definition.specs.Vector.{fold_to, word}
use Rattle.definition.specs.Problem.{Setup, Bounds, Refusal, Check, refuse, when, ◌then◌, each_index, given, check_side, check_pair}
use Rattle.definition.specs.Problem.{check_bounds, check_problem, positive, finite_positive, finite_nonnegative, check_common, check_options}
use Rattle.definition.specs.Problem.{most_coordinates, most_pairs, most_budget, at_most, check_limits, validate, dimension, area_needed}
use Rattle.definition.specs.Machine.{Reply, reply_kind, brought_words, Machine, Question, takes, check_length, check_due, question, unreported}
use Rattle.definition.specs.Log.{entry_words, log_words, entry_of, Entries, admit_due, admit, next_entry, one_more, after_entries, first_entries, entries_of}
use Rattle.definition.specs.Book.{Book, run_of, log_of, entry_at}
use Rattle.definition.specs.Record.{Lengths, Reading, setup_in, setup_length, words_of, record_words, reading_of, check_area}
use Rattle.definition.specs.Record.{same_sums, malformed, check_words, unless_refused, read_words, framed, read_record}
use Rattle.definition.specs.History.{Call, Answer, History, setup_row, most_refusal, refusals_of, among, log_short}
use Rattle.definition.specs.History.{output_short, check_reply, check_question, restored_answer, refused_by, history_answer}
use Rattle.definition.specs.Programs.{most_bytes, plenty, read_input}
use Rattle.definition.proofs.Tests.{by_test, holds, both_hold}

-- ---- rows of the table

abbrev all_of : (ℕ → Bool) → List ℕ → Bool
all_of p [] = true
all_of p (x ∷ xs) = p x && all_of p xs

-- what holds of every number of a row holds of a number in it
of_row : (p : ℕ → Bool) (row : List ℕ) (k : ℕ) → all_of p row ≡ true → among k row ≡ true → p k ≡ true
of_row p [] k h e = absurd (false≢true e)
of_row p (x ∷ xs) k h e =
    let here : T (p x) × T (all_of p xs) = both_hold (p x) (all_of p xs) h in
    go (eqb k x) refl e (is_true (p x) here.0) (λ q. of_row p xs k (is_true (all_of p xs) here.1) q)
  where
    go : (t : Bool) → eqb k x ≡ t → t || among k xs ≡ true → p x ≡ true → (among k xs ≡ true → p k ≡ true) → p k ≡ true
    go true q e first rest = subst (λ (y : ℕ). p y ≡ true) (sym (eqb→eq k x (holds q))) first
    go false q e first rest = rest e

-- every number of a call's rows is one of the table's
pub table_numbers : (c : Call) (k : ℕ) → among k (refusals_of c) ≡ true → (1 ≤ k) × (k ≤ most_refusal)
table_numbers c k e =
    let h = both_hold (leb 1 k) (leb k most_refusal) (of_row within (refusals_of c) k (every c) e) in
    (leb→le 1 k h.0, leb→le k most_refusal h.1)
  where
    within : ℕ → Bool
    within i = leb 1 i && leb i most_refusal

    every : (c : Call) → all_of within (refusals_of c) ≡ true
    every (Call.start s) = refl
    every (Call.restore bs) = refl
    every (Call.reply r) = refl
    every (Call.take_back j) = refl
    every (Call.question room) = refl
    every (Call.report room) = refl
    every Call.replies = refl
    every (Call.entry i room) = refl
    every (Call.save room) = refl

-- ---- checks

-- a check that refuses, if at all, by a number of the row
pub data Numbered (row : List ℕ) : Check → Type 0 where
  passes : Numbered row None
  refuses : {r : Refusal} → among r.number row ≡ true → Numbered row (Some r)

pub wider : (a b : List ℕ) (c : Check) → all_of (λ (i : ℕ). among i b) a ≡ true → Numbered a c → Numbered b c
wider a b None e h = Numbered.passes
wider a b (Some r) e (Numbered.refuses h) = Numbered.refuses (of_row (λ (i : ℕ). among i b) a r.number e h)

pub tested : {row : List ℕ} (t : Bool) (number a b : ℕ) → among number row ≡ true → Numbered row (when t (refuse number a b))
tested true number a b e = Numbered.refuses e
tested false number a b e = Numbered.passes

pub both : {row : List ℕ} (a b : Check) → Numbered row a → Numbered row b → Numbered row (a then b)
both None b h k = k
both (Some r) b h k = h

each : {row : List ℕ} (n : ℕ) (check : ℕ → Check) → ((i : ℕ) → Numbered row (check i)) → Numbered row (each_index n check)
unfolding fold_to
each zero check h = Numbered.passes
each (suc n) check h = both (each_index n check) (check n) (each n check h) (h n)

if_given : {row : List ℕ} {A : Type 0} (check : A → Check) (o : Option A) → ((a : A) → Numbered row (check a)) → Numbered row (given check o)
if_given check None h = Numbered.passes
if_given check (Some a) h = h a

-- ---- a setup

side : (n : ℕ) (s : List Float) → Numbered setup_row (check_side n s)
side n s =
    let test : ℕ → Check = λ i. when (is_nan (word s i)) (refuse 4 i 0) in
    both (when (not (eqb (length s) n)) (refuse 3 n (length s))) (each_index n test) (tested (not (eqb (length s) n)) 3 n (length s) refl)
    (each n test (λ i. tested (is_nan (word s i)) 4 i 0 refl))

pair : (b : Bounds) (i : ℕ) → Numbered setup_row (check_pair b i)
pair b i =
    let turned = Ieee.lt (word b.upper i) (word b.lower i) in
    let empty = Ieee.eq (word b.lower i) infinity || Ieee.eq (word b.upper i) neg_infinity in
    both (when turned (refuse 5 i 0)) (when empty (refuse 6 i 0)) (tested turned 5 i 0 refl) (tested empty 6 i 0 refl)

bounds : (n : ℕ) (b : Bounds) → Numbered setup_row (check_bounds n b)
bounds n b =
    both (check_side n b.lower) (check_side n b.upper then each_index n (check_pair b)) (side n b.lower)
    (both (check_side n b.upper) (each_index n (check_pair b)) (side n b.upper) (each n (check_pair b) (pair b)))

problem : (s : Setup) → Numbered setup_row (check_problem s)
unfolding check_problem
problem s =
    let n = length s.x0 in
    let test : ℕ → Check = λ i. when (not (finite (word s.x0 i))) (refuse 2 i 0) in
    both (when (eqb n 0) (refuse 1 0 0)) (each_index n test then given (check_bounds n) s.bounds) (tested (eqb n 0) 1 0 0 refl)
    (both (each_index n test) (given (check_bounds n) s.bounds) (each n test (λ i. tested (not (finite (word s.x0 i))) 2 i 0 refl))
    (if_given (check_bounds n) s.bounds (bounds n)))

count : (option : ℕ) (o : Option ℕ) → Numbered setup_row (given (positive option) o)
count option o = if_given (positive option) o (λ k. tested (eqb k 0) 7 option 0 refl)

above : (option : ℕ) (o : Option Float) → Numbered setup_row (given (finite_positive option) o)
above option o = if_given (finite_positive option) o (λ v. tested (not (finite v) || Ieee.le v zero64) 8 option 0 refl)

not_below : (option : ℕ) (o : Option Float) → Numbered setup_row (given (finite_nonnegative option) o)
not_below option o = if_given (finite_nonnegative option) o (λ v. tested (not (finite v) || Ieee.lt v zero64) 9 option 0 refl)

limit : (most detail k : ℕ) → Numbered setup_row (at_most most detail k)
limit most detail k = tested (ltb most k) 10 detail 0 refl

limited : (most detail : ℕ) (o : Option ℕ) → Numbered setup_row (given (at_most most detail) o)
limited most detail o = if_given (at_most most detail) o (limit most detail)

pub setup_numbered : (s : Setup) → Numbered setup_row (validate s)
unfolding validate check_common check_options check_limits
setup_numbered s =
    let common =
    both (given (positive 1) s.maxiter) (given (positive 2) s.maxfev then given (finite_positive 1) s.tol) (count 1 s.maxiter)
    (both (given (positive 2) s.maxfev) (given (finite_positive 1) s.tol) (count 2 s.maxfev) (above 1 s.tol)) in
    let last = both (given (positive 3) s.maxcor) (given (finite_positive 2) s.eps) (count 3 s.maxcor) (above 2 s.eps) in
    let options =
    both (given (finite_nonnegative 1) s.ftol)
    (given (finite_nonnegative 2) s.gtol then given (positive 3) s.maxcor then given (finite_positive 2) s.eps) (not_below 1 s.ftol)
    (both (given (finite_nonnegative 2) s.gtol) (given (positive 3) s.maxcor then given (finite_positive 2) s.eps) (not_below 2 s.gtol) last) in
    let budgets =
    both (given (at_most most_budget 3) s.maxiter) (given (at_most most_budget 4) s.maxfev) (limited most_budget 3 s.maxiter)
    (limited most_budget 4 s.maxfev) in
    let limits =
    both (at_most most_coordinates 1 (length s.x0))
    (given (at_most most_pairs 2) s.maxcor then given (at_most most_budget 3) s.maxiter then given (at_most most_budget 4) s.maxfev)
    (limit most_coordinates 1 (length s.x0))
    (both (given (at_most most_pairs 2) s.maxcor) (given (at_most most_budget 3) s.maxiter then given (at_most most_budget 4) s.maxfev)
    (limited most_pairs 2 s.maxcor) budgets) in
    both (check_problem s) (check_common s then check_options s then check_limits s) (problem s)
    (both (check_common s) (check_options s then check_limits s) common (both (check_options s) (check_limits s) options limits))

pub opening : (z : Lengths) (s : Setup) → Numbered (refusals_of (Call.start s)) (validate s then check_area z s)
opening z s =
    both (validate s) (check_area z s) (wider setup_row (refusals_of (Call.start s)) (validate s) refl (setup_numbered s))
    (tested (ltb z.area (area_needed s)) 11 (area_needed s) 0 refl)

-- ---- a record

abbrev record_row : List ℕ
record_row = refusals_of (Call.restore [])

-- at an entry
abbrev entry_row : List ℕ
entry_row = 17 ∷ 12 ∷ []

abbrev Entered : Entries → Type 0
Entered (Entries.kept rs) = Unit {0}
Entered (Entries.refused_at c) = among c entry_row ≡ true
Entered (Entries.going ws rs m) = Unit {0}

entry_due : (room : ℕ) (ws : List ℕ) (rs : List Reply) (m : Machine) (r : Reply) (c : Check) → Entered (admit_due room ws rs m r c)
entry_due room ws rs m r (Some c) = refl
entry_due room ws rs m r None =
    by_test Entered (ltb room (length (log_words rs) + length (entry_words r))) (λ _. refl) (λ _. tt)

entry_next : (room : ℕ) (ws : List ℕ) (rs : List Reply) (m : Machine) → Entered (next_entry room ws rs m)
entry_next room [] rs m = tt
entry_next room (k ∷ ws) rs m = go (entry_of m.terms.n k ws)
  where
    go : (o : Option Reply) → Entered (admit room ws rs m o)
    go None = refl
    go (Some r) = entry_due room ws rs m r (check_due m r)

entry_more : (room : ℕ) (e : Entries) → Entered e → Entered (one_more room e)
entry_more room (Entries.kept rs) h = tt
entry_more room (Entries.refused_at c) h = h
entry_more room (Entries.going ws rs m) h = entry_next room ws rs m

entries : (k room : ℕ) (e : Entries) → Entered e → Entered (after_entries k room e)
unfolding after_entries
entries zero room e h = h
entries (suc k) room e h = entry_more room (after_entries k room e) (entries k room e h)

abbrev pub ReadNumbered : Reading → Type 0
ReadNumbered (Reading.accepted b) = Unit {0}
ReadNumbered (Reading.refused c) = among c.number record_row ≡ true
ReadNumbered (Reading.refused_at_entry c) = among c.number entry_row ≡ true

unless : (c : Check) (r : Reading) → Numbered record_row c → ReadNumbered r → ReadNumbered (unless_refused c r)
unless None r h k = k
unless (Some c) r (Numbered.refuses h) k = h

reading : (s : Setup) (e : Entries) → Entered e → ReadNumbered (reading_of s e)
reading s (Entries.kept rs) h = tt
reading s (Entries.refused_at c) h = h
reading s (Entries.going ws rs m) h = refl

read_words_lem : (z : Lengths) (ws : List ℕ) (p q : ℕ) → ReadNumbered (read_words z ws p q)
unfolding read_words check_words
read_words_lem z ws p q =
    let s = setup_in ws in
    let rest = drop (setup_length (get_or ws 0 0)) ws in
    let opened = wider (refusals_of (Call.start s)) record_row (validate s then check_area z s) refl (opening z s) in
    let form = both (when (malformed ws) (refuse 17 0 0)) (validate s then check_area z s) (tested (malformed ws) 17 0 0 refl) opened in
    let checks =
    both (when (not (same_sums ws p q)) (refuse 18 0 0)) (when (malformed ws) (refuse 17 0 0) then validate s then check_area z s)
    (tested (not (same_sums ws p q)) 18 0 0 refl) form in
    unless (check_words z ws p q) (reading_of s (entries_of s z.log rest)) checks
    (reading s (entries_of s z.log rest) (entries (length rest + 1) z.log (first_entries s rest) tt))

pub record_numbered : (z : Lengths) (bs : List ℕ) → ReadNumbered (read_record z bs)
unfolding read_record
record_numbered z bs =
    let t = words_of 4 (drop (length bs - 32) bs) in
    by_test ReadNumbered (ltb (length bs) 32) (λ _. refl) (λ _.
    by_test ReadNumbered (framed (length bs) t) (λ _. read_words_lem z _ (get_or t 0 0) (get_or t 1 0)) (λ _. refl))

pub input_numbered : (bs : List ℕ) → ReadNumbered (read_input bs)
unfolding read_input
input_numbered bs = by_test ReadNumbered (ltb most_bytes (length bs)) (λ _. refl) (λ _. record_numbered plenty bs)

-- ---- every call

pub due : (m : Machine) (r : Reply) → Numbered (refusals_of (Call.reply r)) (check_due m r)
due m r =
    let n = m.terms.n in
    let size = length (brought_words r) in
    both (when (not (takes m r)) (refuse 13 0 0)) (check_length n r) (tested (not (takes m r)) 13 0 0 refl)
    (tested (eqb (reply_kind r) 2 && not (eqb size n)) 14 n size refl)

pub short : {row : List ℕ} (room needed : ℕ) → among 19 row ≡ true → Numbered row (output_short room needed)
short room needed e = tested (ltb room needed) 19 needed 0 e

asks : (b : Book) (room : ℕ) (q : Option Question) → Numbered (19 ∷ []) (check_question b room q)
asks b room None = Numbered.passes
asks b room (Some q) = short room (dimension b.setup) refl

log_kept : {row : List ℕ} (z : Lengths) (b : Book) → among 12 row ≡ true → Numbered row (log_short z b)
log_kept z b e = tested (ltb z.log (length (log_of b))) 12 0 0 e

abbrev pub AnswerNumbered : List ℕ → Answer → Type 0
AnswerNumbered row (Answer.refused r) = among r.number row ≡ true
AnswerNumbered row Answer.done = Unit {0}
AnswerNumbered row (Answer.asked q) = Unit {0}
AnswerNumbered row (Answer.reported r) = Unit {0}
AnswerNumbered row (Answer.counted k) = Unit {0}
AnswerNumbered row (Answer.entered ws) = Unit {0}
AnswerNumbered row (Answer.saved bs) = Unit {0}

-- by the check and, where it passes, by the answer
pub answered : {numbers : List ℕ} (c : Check) (a : Answer) → Numbered numbers c → AnswerNumbered numbers a → AnswerNumbered numbers (refused_by c a)
answered None a h k = k
answered (Some r) a (Numbered.refuses h) k = h

pub restores : (r : Reading) → ReadNumbered r → AnswerNumbered record_row (restored_answer r)
restores (Reading.accepted b) h = tt
restores (Reading.refused c) h = h
restores (Reading.refused_at_entry c) h = of_row (λ (i : ℕ). among i record_row) entry_row c.number refl h

answer_numbered : (z : Lengths) (h : History) (c : Call) → AnswerNumbered (refusals_of c) (history_answer z h c)
answer_numbered z h (Call.start s) = answered (validate s then check_area z s) Answer.done (opening z s) tt
answer_numbered z h (Call.restore bs) = restores (read_record z bs) (record_numbered z bs)
answer_numbered z History.empty (Call.reply r) = refl
answer_numbered z (History.fit b) (Call.reply r) =
    let full = ltb z.log (length (log_of b) + length (entry_words r)) in
    answered (check_reply z b r) Answer.done (both (check_due (run_of b) r) (when full (refuse 12 0 0)) (due (run_of b) r) (tested full 12 0 0 refl)) tt
answer_numbered z History.empty (Call.take_back j) =
    answered {numbers = refusals_of (Call.take_back j)} (when (ltb 0 j) (refuse 16 0 0)) Answer.done (tested (ltb 0 j) 16 0 0 refl) tt
answer_numbered z (History.fit b) (Call.take_back j) =
    let few = ltb (length b.replies) j in
    answered {numbers = refusals_of (Call.take_back j)} _ Answer.done
    (both (when few (refuse 16 0 0)) (log_short z b) (tested few 16 0 0 refl) (log_kept z b refl)) tt
answer_numbered z History.empty (Call.question room) = tt
answer_numbered z (History.fit b) (Call.question room) =
    answered (check_question b room (question (run_of b))) (Answer.asked (question (run_of b))) (asks b room (question (run_of b))) tt
answer_numbered z History.empty (Call.report room) = refl
answer_numbered z (History.fit b) (Call.report room) =
    let absent = unreported (run_of b).phase in
    let n = dimension b.setup in
    answered {numbers = refusals_of (Call.report room)} _ _
    (both (when absent (refuse 15 0 0)) (output_short room n) (tested absent 15 0 0 refl) (short room n refl)) tt
answer_numbered z History.empty Call.replies = tt
answer_numbered z (History.fit b) Call.replies = tt
answer_numbered z History.empty (Call.entry k room) = tt
answer_numbered z (History.fit b) (Call.entry k room) =
    let needed = length (entry_at b.replies k) in
    answered {numbers = refusals_of (Call.entry k room)} _ _ (both (log_short z b) (output_short room needed) (log_kept z b refl) (short room needed refl)) tt
answer_numbered z History.empty (Call.save room) = tt
answer_numbered z (History.fit b) (Call.save room) =
    let needed = 8 * length (record_words b) in
    answered {numbers = refusals_of (Call.save room)} _ _ (both (log_short z b) (output_short room needed) (log_kept z b refl) (short room needed refl)) tt

-- ---- the theorem

-- a refusal of any call, after any history, has a number of the call's own rows
pub refusals_numbered : (z : Lengths) (h : History) (c : Call) (r : Refusal) → history_answer z h c ≡ Answer.refused r → among r.number (refusals_of c) ≡ true
refusals_numbered z h c r e = subst (AnswerNumbered (refusals_of c)) e (answer_numbered z h c)
