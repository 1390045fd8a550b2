-- Laws of restoring a record: refused ahead of its entries, refused at one, or read in whole. Assumes nothing.
use Prim.Native.Nat.{ℕ, ◌/◌}
use native.Mathlib.Omega.{arith}
use mathlib.Core.Path.{◌≡◌, refl, sym, ap, ap₂, ◌∙◌, subst}
use mathlib.Core.Logic.{◌⊎◌, inl, inr, ⊎_elim}
use mathlib.Core.List.{List}
use lib.ListN.{length, drop, length-append, length-drop, length-replicate}
use lib.Seq.{take_at}
use lib.Ieee.{Float}
use Rattle.definition.specs.Number.{zero64}
use Rattle.definition.specs.Log.{log_words}
use Rattle.definition.specs.Book.{book}
use Rattle.definition.specs.Record.{Reading, read_record, reading_of, plain_refusal, words_of}
use Rattle.definition.specs.History as H
use Rattle.definition.specs.History.{History, restored, restored_answer}
use Rattle.definition.proofs.Bytes.{words_of-length}
use Rattle.problem.specs.Setups.{refusal_of}
use Rattle.std.specs.Prelude.{Result, Ok, Err}
use Rattle.problem.specs.declared.Options.{Options}
use Rattle.problem.specs.declared.Refusal.{Refusal}
use Rattle.problem.specs.declared.Refusal.TheVariants.{LogShort, Malformed}
use Rattle.fit.specs.declared.Fit.{Fit}
use Rattle.held.proofs.Test.{zeroed_unheld}
use Rattle.record.specs.declared.Frame.{Frame}
use Rattle.record.specs.Records.{entry_bytes, Opens}
use Rattle.replay.specs.Replays.{ReplayedTo}
use Rattle.lbfgsb.specs.Words.{Words, words, lengths, Holds}
use Rattle.lbfgsb.specs.Bridge.{next, kept}
use Rattle.lbfgsb.specs.Did.{Restores, Restored}
use Rattle.rebuild.specs.Built.{headed, Built, Unbuilt, Builds, Reloads}
use Rattle.held.proofs.Laws.{reached_held}
use Rattle.rebuild.proofs.Recorded.{setup, entries, reading}
use Rattle.definition.proofs.Entries.{entries_most}
use Rattle.rebuild.proofs.Reread.{refused_read, replayed_all, replayed_read}

-- ---- what the reading says of every history

restored_holds : (w w' : Words) (d : Reading) → Restores d w w' → (h : History) → Holds w h → Holds w' (restored h d)
restored_holds w w' (Reading.accepted b) r h k = r.held
restored_holds w w' (Reading.refused c) r h k = subst (λ (x : Words). Holds x h) (sym r) k
restored_holds w w' (Reading.refused_at_entry c) r h k = subst (λ (x : Words). Holds x History.empty) (sym r) (zeroed_unheld w.state (length w.area))

restores : (bs : List ℕ) (w w' : Words) (o : H.Answer) (d : Reading) → read_record (lengths w) bs ≡ d → lengths w' ≡ lengths w → o ≡ restored_answer d
    → Restores d w w'
    → Restored bs w w' o
restores bs w w' o d e z a r =
    let always = a ∙ ap restored_answer (sym e) in
    record {
      did = record {
        sized = z;
        holds = λ h k. subst (λ (x : Reading). Holds w' (restored h x)) (sym e) (restored_holds w w' d r h k);
        said = λ h k. always;
      };
      always = always;
      restores = subst (λ (x : Reading). Restores x w w') (sym e) r;
    }

-- the refusals of an entry have no details
plain : {A : Type 0} (c : Refusal) → (c ≡ Malformed) ⊎ ((c ≡ LogShort) × A) → refusal_of c ≡ plain_refusal (refusal_of c).number
plain c (inl e) = rw e refl
plain c (inr e) = rw e.0 refl

module _ (bs : List ℕ) (g : Fit) (a : List Float) (l : List ℕ) (o : Options) (f : Frame) (h : Opens bs (length a) o f) where
  abbrev limit : ℕ
  limit = length (entries bs (length a) o f h)

  module _ (t : Fit) (b : List Float) (k : Built (setup bs (length a) o f h) (entries bs (length a) o f h) limit (length l) a t b) where
    replayed : ReplayedTo (setup bs (length a) o f h) (entries bs (length a) o f h) (length l) t b
    replayed = k.is (inl h.accepted)

    all_words : t.extra.words ≡ length (entries bs (length a) o f h)
    all_words =
        ⊎_elim (λ e. e)
        (λ e. omega (arith, e, k.words, replayed.entries, replayed.words, entries_most replayed.replies)) k.stopped

    abbrev copy : List ℕ
    copy = words_of t.extra.words (entry_bytes f)

    copied : copy ≡ entries bs (length a) o f h
    copied =
        ap (λ (i : ℕ). words_of i (entry_bytes f)) (all_words ∙ words_of-length (length (entry_bytes f) / 8) (entry_bytes f))

    logged : copy ≡ log_words replayed.replies
    logged = copied ∙ sym (replayed_all replayed all_words)

    abbrev now_log : List ℕ
    now_log = headed copy l

    copied_long : length copy ≡ t.extra.words
    copied_long = words_of-length t.extra.words (entry_bytes f)

    headed_long : length now_log ≡ length l
    headed_long =
        length-append copy (drop (length copy) l) ∙ omega (arith, copied_long, length-drop (length copy) l, k.within)

    restore_kept : Restored bs (words g a l) (words t b now_log) H.Answer.done
    restore_kept =
        restores bs (words g a l) (words t b now_log) H.Answer.done (Reading.accepted (book (setup bs (length a) o f h) replayed.replies))
        (reading bs (length a) o f h (length l) ∙ ap (reading_of (setup bs (length a) o f h)) (replayed_read replayed all_words k.within))
        (ap₂ (λ (x y : ℕ). record { area = x; log = y }) k.long headed_long)
        refl
        (record {
          held =
              reached_held
              (record {
                accepted = h.accepted;
                due = replayed.due;
                setup = k.setup;
                is = replayed.is;
                sound = k.sound;
                area = k.area;
                settled = k.settled;
                entries = replayed.entries;
                words = replayed.words;
              })
              k.mark (omega (arith, headed_long, k.within)) (take_at copy (drop (length copy) l) t.extra.words copied_long ∙ logged);
          log = ap (λ (ws : List ℕ). headed ws l) logged;
        })

  module _ (c : Refusal) (b : List Float) (k : Unbuilt (setup bs (length a) o f h) (entries bs (length a) o f h) limit (length l) (length a) c b) where
    abbrev number : ℕ
    number = (refusal_of c).number

    restore_zeroed : Restored bs (words g a l) (words g b l) (H.Answer.refused (refusal_of c))
    restore_zeroed =
        restores bs (words g a l) (words g b l) (H.Answer.refused (refusal_of c)) (Reading.refused_at_entry (plain_refusal number))
        (reading bs (length a) o f h (length l)
        ∙ ap (reading_of (setup bs (length a) o f h))
        (refused_read (setup bs (length a) o f h) (entries bs (length a) o f h) limit (length l) number (omega arith)
        (k.is (inl h.accepted))))
        (ap (λ (x : ℕ). record { area = x; log = length l }) (ap length k.area ∙ length-replicate (length a) zero64))
        (ap H.Answer.refused (plain c k.which))
        (ap (λ (x : List Float). words g x l) k.area)

  -- ---- by what is built

  pub built_restored : (q : Result Fit Refusal) (b : List Float) (m : List ℕ)
      → Builds (setup bs (length a) o f h) (entries bs (length a) o f h) limit (length l) a q b → Reloads q f l m
      → Restored bs (words g a l) (words (next g q) b m) (kept q)
  built_restored (Ok t) b m k z = subst (λ (x : List ℕ). Restored bs (words g a l) (words t b x) H.Answer.done) (sym z) (restore_kept t b k)
  built_restored (Err c) b m k z =
      subst (λ (x : List ℕ). Restored bs (words g a l) (words g b x) (H.Answer.refused (refusal_of c))) (sym z) (restore_zeroed c b k)
