-- Laws of a record that opens: where its entries stand, how it is read on, and the fit of its setup. Assumes nothing.
use Prim.Native.Nat.{ℕ, ◌-◌, ◌*◌, ◌/◌, ◌≤◌}
use native.Mathlib.Omega.{arith}
use mathlib.Core.Path.{◌≡◌, sym, ap, ◌∙◌, subst}
use mathlib.Core.Bool.{true}
use mathlib.Core.List.{List}
use lib.ListN.{length, take, drop}
use lib.Ieee.{Float}
use Rattle.definition.specs.Problem.{Setup, validate, area_needed}
use Rattle.definition.specs.Log.{entries_of}
use Rattle.definition.specs.Record.{read_record, reading_of, setup_in}
use Rattle.definition.proofs.Accepted.{accepted_in_limits}
use Rattle.definition.proofs.Bytes.{words_of-length}
use Rattle.area.proofs.Sizes.{behind}
use Rattle.problem.specs.Setups.{setup_of, places_in}
use Rattle.problem.specs.declared.Setup.{Setup as Lent}
use Rattle.problem.specs.declared.Options.{Options}
use Rattle.fit.specs.declared.Fit.{Fit}
use Rattle.opening.specs.Opened.{Room, Fits, Opened}
use Rattle.held.specs.Test.{is_ready}
use Rattle.record.specs.declared.Frame.{Frame}
use Rattle.record.specs.Records.{words_in, entry_bytes, setup_from, floats_of, Opens}
use Rattle.record.proofs.Reading.{words_rest}
use Rattle.record.proofs.Floats.{opened_setup}
use Rattle.rebuild.specs.Built.{entries_in, Built}
use Rattle.held.proofs.Laws.{reached_ready, opened_reached}

module _ (bs : List ℕ) (size : ℕ) (o : Options) (f : Frame) (h : Opens bs size o f) where
  abbrev pub setup : Setup
  setup = setup_in (words_in f)

  abbrev pub entries : List ℕ
  entries = entries_in f

  -- what `entries` asks
  pub entries_within : 8 * f.setup ≤ length f.bytes.now
  entries_within = omega (arith, h.whole, words_of-length (length f.bytes.now / 8) f.bytes.now)

  pub reading : (room : ℕ) → read_record (record { area = size; log = room }) bs ≡ reading_of setup (entries_of setup room entries)
  reading room =
      h.reads room ∙ ap (λ (ws : List ℕ). reading_of setup (entries_of setup room ws)) (words_rest f.bytes.now f.setup h.whole)

  -- the setup of its options and vectors
  pub record_setup : (p : Lent) (v : List Float) → setup_of p ≡ setup_from o v f.n → v ≡ floats_of (take (f.setup - 7) (drop 7 (words_in f)))
      → setup_of p ≡ setup
  record_setup p v is e = is ∙ ap (λ (x : List Float). setup_from o x f.n) e ∙ opened_setup bs size o f h

  module _ (p : Lent) (is : setup_of p ≡ setup) where
    -- what `begin` asks
    pub opens_room : Room p.options (length p.x0.now) size × Fits p.options (length p.x0.now) p.lower.now p.upper.now
    opens_room =
        let l = accepted_in_limits (setup_of p) (ap validate is ∙ h.accepted) in
        let need : area_needed (setup_of p) ≤ size = subst (λ (s : Setup). area_needed s ≤ size) (sym is) h.room in (
          record { all = omega (arith, need, behind (length p.x0.now) (places_in p.options)); few = l.pairs.1; some = l.pairs.0 },
          record { lower = λ b. rw b at l.lower; upper = λ b. rw b at l.upper },
        )

    -- the fit that `begin` makes of it
    pub record_opened : {q : Options} {n : ℕ} {a : List Float} {r : Fit} {b : List Float} → Opened q n (setup_of p) a r b → Opened q n setup a r b
    record_opened {q} {n} {a} {r} {b} k = subst (λ (s : Setup). Opened q n s a r b) is k

  pub record_ready : {q : Options} {n : ℕ} {a : List Float} {r : Fit} {b : List Float} → length a ≡ size → Opened q n setup a r b
      → is_ready r (length b) ≡ true
  record_ready z k = reached_ready (opened_reached h.accepted (subst (λ (i : ℕ). area_needed setup ≤ i) (sym (k.long ∙ z)) h.room) k)

  -- what `copy_entries` asks
  pub copies_within : {s : Setup} {limit room : ℕ} {a : List Float} {t : Fit} {b : List Float} → Built s (entries_in f) limit room a t b
      → (8 * t.extra.words ≤ length (entry_bytes f)) × (t.extra.words ≤ room)
  copies_within k = (omega (arith, k.words, words_of-length (length (entry_bytes f) / 8) (entry_bytes f)), k.within)
