-- Laws of entries read one by one: a log of due replies gives them back, at any number of them, and reading on to the end is the definition's reading.
-- Assumes nothing.
use Prim.Native.Nat.{ℕ, zero, suc, ◌+◌, ◌-◌, ◌≤◌, ◌<◌}
use native.Mathlib.Omega.{arith}
use mathlib.Core.Path.{◌≡◌, refl, sym, ap, ap₂, ◌∙◌}
use mathlib.Core.List.{List, [], ◌∷◌, ◌++◌, append_assoc, append-nil}
use Rattle.std.specs.Prelude.{None, Some}
use lib.ListN.{length, drop, length-drop}
use lib.Seq.{drop-length, drop-append-le}
use lib.Ieee.{Float}
use Rattle.definition.specs.Problem.{Setup}
use Rattle.definition.specs.Machine.{Reply}
use Rattle.definition.specs.Log.{entry_words, log_words, Entries, one_more, after_entries, first_entries, entries_of, stayed, entries_kept}
use Rattle.definition.specs.Replies.{Due}
use Rattle.definition.proofs.Entries.{after_stopped, after_log, log_back, after_alike}
use Rattle.definition.proofs.Histories.{due_struck, log_struck}
use Rattle.fit.specs.State.{machine_of}
use Rattle.fit.specs.declared.Fit.{Fit}
use Rattle.replay.specs.Replays.{ReplayedTo, RefusedAt}

-- ---- the entries that are to stay

-- the words behind the entries that stay when j are struck
abbrev behind : ℕ → List Reply → List ℕ
behind j rs = drop (length (log_words (drop j rs))) (log_words rs)

log_front : (j : ℕ) (rs : List Reply) → log_words (drop j rs) ++ behind j rs ≡ log_words rs
unfolding log_words
log_front zero rs = ap (λ (ws : List ℕ). log_words rs ++ ws) (drop-length (log_words rs)) ∙ append-nil (log_words rs)
log_front (suc j) [] = refl
log_front (suc j) (r ∷ rs) =
    let p = log_words (drop j rs) in
    ap (λ (ws : List ℕ). p ++ ws) (drop-append-le (length p) (log_words rs) (entry_words r) (log_struck j rs))
    ∙ sym (append_assoc p (behind j rs) (entry_words r))
    ∙ ap (λ (ws : List ℕ). ws ++ entry_words r) (log_front j rs)

-- of a log of due replies, those that are left when j are struck
pub log_kept : (s : Setup) (rs : List Reply) → Due s rs → (j : ℕ) → j ≤ length rs → entries_kept s (length rs - j) (log_words rs) ≡ Some (drop j rs)
log_kept s rs due j h =
    let count : length rs - j ≡ length (drop j rs) = omega (arith, length-drop j rs) in
    let room = length (log_words rs) in
    ap stayed
    (ap₂ (λ (i : ℕ) (ws : List ℕ). after_entries i room (first_entries s ws)) count (sym (log_front j rs))
    ∙ after_log s room (drop j rs) (behind j rs) (due_struck s j rs due) (log_struck j rs))

-- read into any room for all the words
kept_in : (s : Setup) (ws : List ℕ) (count room : ℕ) → length ws ≤ room → entries_kept s count ws ≡ stayed (after_entries count room (first_entries s ws))
kept_in s ws count room fits = ap stayed (after_alike s (length ws) room ws (omega arith) fits count).0

stopped_kept : (s : Setup) (ws : List ℕ) (count room k : ℕ) (d : Entries) → length ws ≤ room → k ≤ count → one_more room d ≡ d
    → after_entries k room (first_entries s ws) ≡ d → entries_kept s count ws ≡ stayed d
stopped_kept s ws count room k d fits h stops is =
    kept_in s ws count room fits ∙ ap stayed (after_stopped k count room (first_entries s ws) d h stops is)

-- one of them is refused
pub refused_kept : (s : Setup) (ws : List ℕ) (count room c : ℕ) → length ws ≤ room → RefusedAt s ws count room c → entries_kept s count ws ≡ None
refused_kept s ws count room c fits r = stopped_kept s ws count room r.number (Entries.refused_at c) fits r.most refl r.is

module _ {s : Setup} {ws : List ℕ} {room : ℕ} {f : Fit} {b : List Float} (count : ℕ) (fits : length ws ≤ room) (r : ReplayedTo s ws room f b) where
  -- the words end before the last of them
  pub short_kept : f.extra.words ≡ length ws → f.extra.entries < count → entries_kept s count ws ≡ None
  unfolding after_entries
  short_kept e h =
      let end : drop f.extra.words ws ≡ [] = ap (λ (i : ℕ). drop i ws) e ∙ drop-length ws in
      stopped_kept s ws count room (suc f.extra.entries) (Entries.kept r.replies) fits (omega arith) refl
      (ap (one_more room) (r.after ∙ ap (λ (l : List ℕ). Entries.going l r.replies (machine_of f b)) end))

  -- all of them are read
  pub all_kept : f.extra.entries ≡ count → entries_kept s count ws ≡ Some r.replies
  all_kept e = kept_in s ws count room fits ∙ ap stayed (ap (λ (i : ℕ). after_entries i room (first_entries s ws)) (sym e) ∙ r.after)

-- ---- reading on to the end

-- an entry refused is what the definition answers
pub refused_read : (s : Setup) (ws : List ℕ) (limit room c : ℕ) → limit ≤ length ws → RefusedAt s ws limit room c → entries_of s room ws ≡ Entries.refused_at c
refused_read s ws limit room c h r =
    after_stopped r.number (length ws + 1) room (first_entries s ws) (Entries.refused_at c) (omega (arith, r.most)) refl r.is

-- all words replayed, the definition keeps the same replies
pub replayed_all : {s : Setup} {ws : List ℕ} {room : ℕ} {f : Fit} {b : List Float} (r : ReplayedTo s ws room f b) → f.extra.words ≡ length ws
    → log_words r.replies ≡ ws
replayed_all {ws = ws} {f = f} r e =
    sym (append-nil (log_words r.replies))
    ∙ ap (λ (l : List ℕ). log_words r.replies ++ l) (sym (drop-length ws) ∙ ap (λ (k : ℕ). drop k ws) (sym e))
    ∙ r.spelled

pub replayed_read : {s : Setup} {ws : List ℕ} {room : ℕ} {f : Fit} {b : List Float} (r : ReplayedTo s ws room f b) → f.extra.words ≡ length ws
    → f.extra.words ≤ room
    → entries_of s room ws ≡ Entries.kept r.replies
replayed_read {s} {ws} {room} r e h =
    ap (entries_of s room) (sym (replayed_all r e)) ∙ log_back s room r.replies r.due (omega (arith, r.words))
