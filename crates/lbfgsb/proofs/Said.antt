-- Laws of the reads: the answer by any words is the history's, where they hold one. Assumes nothing.
use Prim.Native.Nat.{ℕ}
use mathlib.Core.Path.{◌≡◌, refl, ap, ap₂, ◌∙◌}
use mathlib.Core.Bool.{Bool, true, false, cond}
use mathlib.Core.List.{List, [], ◌++◌}
use Rattle.std.specs.Prelude.{Option, None, Some}
use lib.Dec.{ltb}
use lib.ListN.{length}
use Rattle.definition.specs.Problem.{Setup, Terms, Check, refuse, when, ◌then◌, dimension}
use Rattle.definition.specs.Machine as M
use Rattle.definition.specs.Book.{Book, run_of, log_of, entry_at}
use Rattle.definition.specs.Record.{plain_refusal, record_words, record_bytes, setup_words, trailer, bytes}
use Rattle.definition.specs.History as H
use Rattle.definition.specs.History.{Call, History, output_short, check_question, refused_by, history_answer}
use Rattle.definition.proofs.Counts.{terms_stay}
use Rattle.definition.proofs.Lengths.{record_bytes_lem}
use Rattle.held.specs.Test.{is_held}
use Rattle.lbfgsb.specs.Words.{Words, lengths, machine_in, log_in, Held, Holds}
use Rattle.lbfgsb.specs.Table.{question_of, question_answer, report_answer, entry_in, entry_kept, short_log, entry_answer, record_in}
use Rattle.lbfgsb.specs.Table.{save_answer}
use Rattle.lookup.proofs.Entries.{entry_read}

-- ---- tests, and what is held

pub on : (t : Bool) (a b : H.Answer) → t ≡ true → cond t a b ≡ a
on t a b e = rw e

pub off : (t : Bool) (a b : H.Answer) → t ≡ false → cond t a b ≡ b
off t a b e = rw e

coordinates : {w : Words} {b : Book} → Held w b → w.state.shape.n ≡ dimension b.setup
coordinates {w} {b} h = ap (λ (x : Terms). x.n) (ap (λ (m : M.Machine). m.terms) h.stands.is ∙ terms_stay b.setup b.replies h.stands.due)

-- ---- the answer by any words is the history's

pub question_said : (w : Words) (room : ℕ) (h : History) → Holds w h → question_answer w room ≡ history_answer (lengths w) h (Call.question room)
question_said w room History.empty h = off (is_held w.state w.area) (question_of w room (M.question (machine_in w))) (H.Answer.asked None) h
question_said w room (History.fit b) h =
    on (is_held w.state w.area) (question_of w room (M.question (machine_in w))) (H.Answer.asked None) h.stands.test
    ∙ ap (λ (m : M.Machine). question_of w room (M.question m)) h.stands.is
    ∙ go (M.question (run_of b))
  where
    go : (q : Option M.Question) → question_of w room q ≡ refused_by (check_question b room q) (H.Answer.asked q)
    go None = refl
    go (Some q) = ap (λ (n : ℕ). refused_by (output_short room n) (H.Answer.asked (Some q))) (coordinates h)

-- the report of the machine m with n coordinates
abbrev pub report_from : ℕ → ℕ → M.Machine → H.Answer
report_from room n m = refused_by (when (M.unreported m.phase) (refuse 15 0 0) then output_short room n) (H.Answer.reported (M.report_now m))

pub report_said : (w : Words) (room : ℕ) (h : History) → Holds w h → report_answer w room ≡ history_answer (lengths w) h (Call.report room)
report_said w room History.empty h =
    off (is_held w.state w.area) (report_from room w.state.shape.n (machine_in w)) (H.Answer.refused (plain_refusal 15)) h
report_said w room (History.fit b) h =
    on (is_held w.state w.area) (report_from room w.state.shape.n (machine_in w)) (H.Answer.refused (plain_refusal 15)) h.stands.test
    ∙ ap₂ (report_from room) (coordinates h) h.stands.is

-- the words ws of an entry, of a log of `size` words and an output of `room`
abbrev pub entry_from : Check → ℕ → List ℕ → H.Answer
entry_from short room ws = refused_by (short then output_short room (length ws)) (H.Answer.entered ws)

log_short_lem : {w : Words} {b : Book} → Held w b → short_log w ≡ H.log_short (lengths w) b
log_short_lem {w} h = ap (λ (k : ℕ). when (ltb (length w.log) k) (refuse 12 0 0)) h.stands.words

abbrev kept_of : ℕ → ℕ → ℕ → List ℕ → List ℕ
kept_of entries n k ws = cond (ltb k entries) (entry_in n k ws) []

entry_kept_lem : {w : Words} {b : Book} (k : ℕ) → Held w b → entry_kept w k ≡ entry_at b.replies k
entry_kept_lem {w} {b} k h =
    ap (λ (e : ℕ). kept_of e w.state.shape.n k (log_in w)) h.stands.entries
    ∙ ap₂ (λ (n : ℕ) (ws : List ℕ). kept_of (length b.replies) n k ws) (coordinates h) h.stands.log
    ∙ entry_read b.setup b.replies k h.stands.due

pub entry_said : (w : Words) (k room : ℕ) (h : History) → Holds w h → entry_answer w k room ≡ history_answer (lengths w) h (Call.entry k room)
entry_said w k room History.empty h = off (is_held w.state w.area) (entry_from (short_log w) room (entry_kept w k)) (H.Answer.entered []) h
entry_said w k room (History.fit b) h =
    on (is_held w.state w.area) (entry_from (short_log w) room (entry_kept w k)) (H.Answer.entered []) h.stands.test
    ∙ ap₂ (λ (c : Check) (ws : List ℕ). entry_from c room ws) (log_short_lem h) (entry_kept_lem k h)

abbrev record_of : Setup → List ℕ → List ℕ
record_of s log = let ws = setup_words s ++ log in bytes (ws ++ trailer ws)

record_is : (b : Book) → record_of b.setup (log_of b) ≡ record_bytes b
unfolding record_bytes record_words
record_is b = refl

record_held : {w : Words} {b : Book} → Held w b → record_in w ≡ record_bytes b
record_held {w} {b} h = ap₂ record_of h.stands.setup h.stands.log ∙ record_is b

abbrev pub save_from : Check → ℕ → ℕ → List ℕ → H.Answer
save_from short room needed bs = refused_by (short then output_short room needed) (H.Answer.saved bs)

pub save_said : (w : Words) (room : ℕ) (h : History) → Holds w h → save_answer w room ≡ history_answer (lengths w) h (Call.save room)
save_said w room History.empty h = off (is_held w.state w.area) (save_from (short_log w) room (length (record_in w)) (record_in w)) (H.Answer.saved []) h
save_said w room (History.fit b) h =
    on (is_held w.state w.area) (save_from (short_log w) room (length (record_in w)) (record_in w)) (H.Answer.saved []) h.stands.test
    ∙ ap₂ (λ (c : Check) (bs : List ℕ). save_from c room (length bs) bs) (log_short_lem h) (record_held h)
    ∙ ap (λ (k : ℕ). save_from (H.log_short (lengths w) b) room k (record_bytes b)) (record_bytes_lem b)
