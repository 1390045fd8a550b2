-- Laws of a fit built anew: the opening of a setup can be replayed into, and what a replay leaves, marked or zeroed, is the fit of setup and entries.
-- Assumes nothing.
use Prim.Native.Nat.{ℕ, ◌*◌, ◌≤◌, ◌<◌}
use native.Mathlib.Omega.{arith}
use mathlib.Core.Path.{◌≡◌, refl, sym, ap, ◌∙◌, subst}
use mathlib.Core.Bool.{true}
use mathlib.Core.Logic.{inr, ⊎_elim}
use mathlib.Core.List.{List}
use lib.Dec.{ltb}
use lib.ListN.{length, drop, replicate}
use lib.Ieee.{Float}
use borrow.Author.Tests.{ltb-true, ltb-false}
use Rattle.std.specs.Prelude.{Result, Ok, Err}
use Rattle.problem.specs.Setups.{refusal_of}
use Rattle.definition.specs.Number.{zero64}
use Rattle.definition.specs.Problem.{Setup, Terms, area_words, area_needed}
use Rattle.definition.specs.Counters as C
use Rattle.definition.specs.Machine as M
use Rattle.definition.specs.Driver.{begin}
use Rattle.definition.specs.Log.{Entries}
use Rattle.definition.proofs.Tests.{by_test}
use Rattle.area.specs.Area.{view, vectors, FreeKept, vector_x0}
use Rattle.problem.specs.Setups.{places_in}
use Rattle.problem.specs.declared.Options.{Options}
use Rattle.counters.specs.Counts.{counters_of}
use Rattle.fit.specs.State.{phase_of}
use Rattle.fit.specs.declared.Fit.{Fit}
use Rattle.fit.specs.declared.Phase.{Phase}
use Rattle.fit.specs.declared.Phase.TheVariants.{Value, Gradient, Probe, Notice, Ended}
use Rattle.opening.specs.Opened.{setup_at, Room, Opened}
use Rattle.fit.specs.State.{most_words}
use Rattle.held.specs.Test.{is_ready, Marks}
use Rattle.held.proofs.Test.{shape_facts, shape_sound, ready_facts, facts_ready, shape_again, marked_machine}
use Rattle.replay.specs.Replays.{Keeps, Replays}
use Rattle.problem.specs.declared.Refusal.{Refusal}
use Rattle.problem.specs.declared.Refusal.TheVariants.{Malformed}
use Rattle.rebuild.specs.Built.{zeroed, Markable, Settles, all_of, Built, Unbuilt, Builds, Cut, Stays}
use Rattle.held.proofs.Laws.{setup_same, marked_setup, marks_saved}
use Rattle.rebuild.proofs.Reread.{refused_kept, short_kept}

-- ---- the opening

-- what `reset` asks
pub ready_room : (t : Fit) (size : ℕ) → is_ready t size ≡ true → Room t.options t.shape.n size
ready_room t size h =
    let f = ready_facts t size h in
    let all = subst (λ (m : ℕ). vectors m * t.shape.n ≤ size) (sym f.places) f.ready.sound.all in
    record { all = all; few = omega (arith, f.places, f.ready.sound.few); some = omega (arith, f.places, f.some) }

opened_within : (p : Phase) (n : ℕ) → phase_of p ≡ M.Phase.value M.Place.start → M.InRange (phase_of p) n
opened_within (Value w) n e = tt
opened_within (Gradient w) n e = tt
opened_within (Probe w i s) n e = let z : ◌≡◌ {A = ℕ} 0 1 = cc in absurd (omega arith)
opened_within Notice n e = tt
opened_within (Ended t) n e = tt

-- a setup opened again, in the place of a fit that passes the test, passes it too, whether or not the setup is accepted
pub opened_ready : (t : Fit) {r : Fit} {s : Setup} {a b : List Float}
    → is_ready t (length a) ≡ true → Opened t.options t.shape.n s a r b → is_ready r (length b) ≡ true
unfolding begin
opened_ready t {r} {s} {a} {b} h k =
    let f = ready_facts t (length b) (rw k.long h) in
    let m : r.shape.m ≡ t.shape.m = k.m ∙ f.places in
    let counts : counters_of r.counters ≡ C.first_counters = ap (λ (x : M.Machine). x.counters) k.is in
    let nit : r.counters.nit ≡ 0 = ap (λ (x : C.Counters). x.nit) counts in
    let njev : r.counters.njev ≡ 0 = ap (λ (x : C.Counters). x.njev) counts in
    let area : area_words r.shape.n r.shape.m ≤ length b = rw (k.n, m) f.area in
    facts_ready r (length b)
    (record {
      ready = record {
        sound = k.sound;
        nit = omega (arith, nit);
        njev = omega (arith, njev);
        n = omega (arith, k.n, f.ready.n);
      };
      within = opened_within r.phase r.shape.n (ap (λ (x : M.Machine). x.phase) k.is);
      shape = shape_again t.shape r.shape (length b) f.shape k.n m k.sound;
      positive = omega (arith, k.n, f.positive);
      some = omega (arith, m, f.some);
      places = ap places_in k.options ∙ sym k.m;
      area = area;
      entries = omega (arith, k.entries);
      words = omega (arith, k.words);
    })

-- ---- the replay

pub markable_all : {t : Fit} {a : List Float} {ws : List ℕ} {limit room : ℕ} (r : Result Fit Refusal) {b : List Float} → Replays t a ws limit room r b
    → Markable (all_of r limit) (length b)
markable_all {limit = limit} (Ok f) {b} h =
    by_test (λ (q : Result Fit Refusal). Markable q (length b)) (ltb f.extra.entries limit) (λ e. tt) (λ e. h.kept.shape)
markable_all (Err c) h = tt

module _ {o : Options} {n : ℕ} {s : Setup} {t : Fit} {was a : List Float} (k : Opened o n s was t a) where
  opened_setup : setup_at t.options (view a t.shape.n) ≡ s
  opened_setup = rw (k.options, k.n) k.setup

  module _ {ws : List ℕ} {limit room : ℕ} where
    kept_setup : {f : Fit} {b : List Float} → Keeps t a ws limit room f b → setup_at f.options (view b f.shape.n) ≡ s
    kept_setup {f} {b} h =
        let x0 = ap (λ (i : ℕ). view b i vector_x0) h.n ∙ h.saved.x0 in
        setup_same f.options (view a t.shape.n) (view b f.shape.n) x0 (ap (λ (x : Terms). x.bounds.lower) h.terms)
        (ap (λ (x : Terms). x.bounds.upper) h.terms)
        ∙ ap (λ (p : Options). setup_at p (view a t.shape.n)) h.options
        ∙ opened_setup

    kept_area : {f : Fit} {b : List Float} → Keeps t a ws limit room f b → area_needed s ≤ length b
    unfolding begin
    kept_area {f} {b} h =
        let needed : area_words f.shape.n f.shape.m ≡ area_needed s
        = ap (λ (x : Terms). area_words x.n x.maxcor) (h.terms ∙ ap (λ (x : M.Machine). x.terms) k.is) in
        omega (arith, needed, (shape_facts f.shape (length b) h.shape).area)

    -- the free vectors pass through the opening, the replay and the mark
    kept_free : {f : Fit} {b c : List Float} → Keeps t a ws limit room f b → Marks f.shape b c → FreeKept (view was f.shape.n) (view c f.shape.n)
    kept_free {f} {b} {c} h m q l u =
        let same : t.shape.n ≡ f.shape.n = sym h.n in
        (marks_saved m).free q l u ∙ (rw same at (h.saved.free q l u)) ∙ (rw (sym k.n ∙ same) at (k.free q l u))

    built : {f : Fit} {b c : List Float} → Replays t a ws limit room (Ok f) b → Marks f.shape b c → Built s ws limit room was f c
    built {f} {b} {c} h m =
        let kept = h.kept in
        let sound = shape_sound (shape_facts f.shape (length b) kept.shape) in
        let same = marked_machine f b c sound m in
        record {
          long = m.size ∙ h.size ∙ k.long;
          setup = marked_setup f.options f b c m ∙ kept_setup kept;
          free = kept_free kept m;
          sound = rw m.size sound;
          mark = m.mark;
          settled = kept.settled k.settled;
          area = rw m.size (kept_area kept);
          words = kept.words;
          within = kept.within;
          stopped = kept.stopped;
          is = λ e.
              let r = h.is s e k.is in
              record {
                replies = r.replies;
                after = r.after ∙ ap (Entries.going (drop f.extra.words ws) r.replies) (sym same);
                due = r.due;
                is = same ∙ r.is;
                spelled = r.spelled;
                entries = r.entries;
                words = r.words;
                ready = rw m.size r.ready;
              };
        }

    unbuilt : {number : Refusal} {b d : List Float} → Replays t a ws limit room (Err number) b → d ≡ zeroed b → Unbuilt s ws limit room (length was) number d
    unbuilt h z = record {
      which = h.kept;
      area = z ∙ ap (λ (i : ℕ). replicate i zero64) (h.size ∙ k.long);
      is = λ e. h.is s e k.is;
    }

    pub builds : (r : Result Fit Refusal) (b c : List Float) → Replays t a ws limit room r b → Settles r b c → Builds s ws limit room was r c
    builds (Ok f) b c h m = built h m
    builds (Err i) b c h m = unbuilt h m

    -- of entries that are all to stay, of few words
    module _ (few : length ws < most_words) (fits : length ws ≤ room) where
      cut_short : {f : Fit} {b d : List Float} → Replays t a ws limit room (Ok f) b → f.extra.entries < limit → d ≡ zeroed b
          → Cut s ws limit (length was) Malformed d
      cut_short h l z = record {
        which = refl;
        area = z ∙ ap (λ (i : ℕ). replicate i zero64) (h.size ∙ k.long);
        is = short_kept limit fits (h.is s (inr few) k.is) (⊎_elim (λ w. w) (λ w. absurd (omega (arith, w))) h.kept.stopped) l;
      }

      all_stay : {f : Fit} {b c : List Float} → Replays t a ws limit room (Ok f) b → limit ≤ f.extra.entries → Marks f.shape b c
          → Stays s ws limit room was (Ok f) c
      all_stay h l m = let r = built h m in (r, omega (arith, h.kept.few), r.is (inr few))

      stays : (r : Result Fit Refusal) (b c : List Float) → Replays t a ws limit room r b → Settles (all_of r limit) b c
          → Stays s ws limit room was (all_of r limit) c
      stays (Err i) b c h m =
          let u = unbuilt h m in
          let which = ⊎_elim (λ e. e) (λ e. absurd (omega (arith, e.1))) u.which in
          record { which = which; area = u.area; is = refused_kept s ws limit room (refusal_of i).number fits (u.is (inr few)) }
      stays (Ok f) b c h m =
          by_test (λ (q : Result Fit Refusal). Settles q b c → Stays s ws limit room was q c) (ltb f.extra.entries limit)
          (λ e z. cut_short h (ltb-true f.extra.entries limit e) z)
          (λ e z. all_stay h (ltb-false f.extra.entries limit e) z)
          m

      pub stays_by : (r : Result Fit Refusal) (b c : List Float) → Replays t a ws limit room r b → (q : Result Fit Refusal) → q ≡ all_of r limit → Settles q b c
          → Stays s ws limit room was q c
      stays_by r b c h q e m =
          subst (λ (x : Result Fit Refusal). Stays s ws limit room was x c) (sym e) (stays r b c h (subst (λ (x : Result Fit Refusal). Settles x b c) e m))
