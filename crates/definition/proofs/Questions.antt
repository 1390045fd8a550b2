-- What holds of the machine at each question: points within the box, and finite values, gradients and directions where a search runs;
-- and from one question to the next the value held does not rise. Assumes nothing.
use Prim.Native.Nat.{ℕ, ◌<◌}
use mathlib.Core.Path.{◌≡◌, refl, sym, ap, ◌∙◌, subst}
use mathlib.Core.Bool.{true, false, true≢false}
use mathlib.Core.List.{List, [], ◌∷◌}
use Rattle.std.specs.Prelude.{Some}
use lib.Dec.{T}
use lib.Ieee.{Float, binary64, fits, le}
use lib.Ieee.Bits.{of_bits-fits}
use lib.Ieee.Scale.{finite}
use Rattle.definition.specs.Number.{minus, to_float, most_step}
use Rattle.definition.specs.Vector.{word, difference}
use Rattle.definition.specs.Problem.{Setup, Terms, terms_of}
use Rattle.definition.specs.Gradient.{probes_at}
use Rattle.definition.specs.Search.{Search, begin_search, accepts, after_trial}
use Rattle.definition.specs.Machine.{Reply, State, Place, Phase, Machine, takes, unreported}
use Rattle.definition.specs.Driver.{learn, move, answer, begin, run}
use Rattle.definition.specs.Replies.{Accepted, Due}
use Rattle.definition.specs.Facts.{gradient_finite}
use Rattle.definition.specs.Points.{Reported, InBox, EachFinite, BoundsOrdered, asks}
use Rattle.definition.proofs.Accepted.{due_taken}
use Rattle.definition.proofs.Order.{le_refl, le_trans}
use Rattle.definition.proofs.Vectors.{get_or-tab}
use Rattle.definition.proofs.Finite.{finite_not_nan, minus_terms_finite, words_finite}
use Rattle.definition.proofs.Steps.{at_most_finite}
use Rattle.definition.proofs.Tests.{holds}
use Rattle.definition.proofs.Trials.{Running, accepted_not_above, begun_running, next_running}
use Rattle.definition.proofs.Inside.{accepted_ordered, start_in_box, line_in_box}
use Rattle.definition.proofs.Turns.{aiming}
use Rattle.definition.proofs.Leads.{trial_slope, Leads, Known, answer_leads}

-- ---- what is known

-- a finite value of binary64
pub record Number (v : Float) : Type 0 where
  pub fitting : T (fits binary64 v)
  pub whole : T (finite v)

-- the point held and the trial lie in the box
pub record Placed (s : Setup) (t : Terms) (x y : List Float) : Type 0 where
  pub terms : t ≡ terms_of s
  pub held : InBox t x
  pub trial : InBox t y

-- the point held has its value and its gradient
pub record Standing (t : Terms) (h : State) : Type 0 where
  pub value : Number h.f
  pub gradient : EachFinite t.n h.g

-- a search runs from there along d
pub record Line (t : Terms) (h : State) (d : List Float) (r : Search) : Type 0 where
  pub standing : Standing t h
  pub point : EachFinite t.n h.x
  pub direction : EachFinite t.n d
  pub search : Running r

abbrev LineOf : Machine → Type 0
LineOf m = Line m.terms m.held m.direction m.search

-- the gradient is gathered at a place, where the value is v
abbrev pub AtPlace : Place → Terms → State → Float → List Float → Search → Type 0
AtPlace Place.start t h v d r = T (le v h.f)
AtPlace Place.trial t h v d r = Line t h d r

pub record Ready (w : Place) (t : Terms) (h : State) (v : Float) (d : List Float) (r : Search) : Type 0 where
  pub value : Number h.f
  pub found : Number v
  pub place : AtPlace w t h v d r

abbrev ReadyOf : Place → Machine → Type 0
ReadyOf w m = Ready w m.terms m.held m.trial.f m.direction m.search

abbrev pub FactsIn : Machine → Phase → Type 0
FactsIn m (Phase.value Place.start) = Unit {0}
FactsIn m (Phase.value Place.trial) = LineOf m
FactsIn m (Phase.gradient w) = ReadyOf w m
FactsIn m (Phase.probe w i side) = ReadyOf w m × (i < m.terms.n) × (asks (probes_at m.terms m.trial.x i) side ≡ true)
FactsIn m Phase.notice = Standing m.terms m.held
FactsIn m (Phase.ended t) = Unit {0}

abbrev PlacedOf : Setup → Machine → Type 0
PlacedOf s m = Placed s m.terms m.held.x m.trial.x

pub record AtQuestion (s : Setup) (m : Machine) : Type 0 where
  pub placed : Placed s m.terms m.held.x m.trial.x
  pub facts : FactsIn m m.phase

-- a finite direction leads from a finite point
finite_start : (n : ℕ) (end x d : List Float) → d ≡ difference n end x → EachFinite n d → EachFinite n x
finite_start n end x d e h i l =
    let same = ap (λ (v : List Float). word v i) e ∙ get_or-tab n (λ j. minus (word end j) (word x j)) i _ l in
    (minus_terms_finite (word end i) (word x i) (subst (λ (v : Float). T (finite v)) same (h i l))).1

-- ---- a step from the machine b

module _ (s : Setup) (ordered : BoundsOrdered (terms_of s)) (b : Machine) where
  -- not above the value held before, where there was one
  abbrev Low : Float → Type 0
  Low v = unreported b.phase ≡ false → Number v × T (le v b.held.f)

  abbrev Gathering : Place → Machine → Type 0
  Gathering w m = PlacedOf s m × Low m.held.f × ReadyOf w m

  abbrev Seeking : Machine → Type 0
  Seeking m = PlacedOf s m × Low m.held.f × Standing m.terms m.held

  abbrev Aimed : Machine → Type 0
  Aimed m = PlacedOf s m × Low m.held.f × LineOf m

  abbrev Next : Machine → Type 0
  Next m = PlacedOf s m × Low m.held.f × FactsIn m m.phase

  aimed : (m : Machine) (r : Search) → PlacedOf s m → Low m.held.f → Line m.terms m.held m.direction r → Aimed (aiming r m)
  aimed m r p l k =
      let ordered-here = subst BoundsOrdered (sym p.terms) ordered in
      let alpha = at_most_finite most_step r.alpha k.search.alpha in
      let trial = line_in_box m.terms m.held.x m.direction r.alpha ordered-here k.point k.direction alpha in
      (record { terms = p.terms; held = p.held; trial = trial }, l, k)

  first_aimed :
      (m : Machine) (end : List Float) (r : Search) → Seeking m → m.direction ≡ difference m.terms.n end m.held.x
      → begin_search m.terms.n m.terms.bounds m.held.x m.held.g m.direction ≡ Some r → Aimed (aiming r m)
  first_aimed m end r h e q =
      let k = begun_running m.terms.n m.terms.bounds m.held.x m.held.g m.direction r q in
      let point = finite_start m.terms.n end m.held.x m.direction e k.0 in
      aimed m r h.0 h.1 (record { standing = h.2; point = point; direction = k.0; search = k.1 })

  next_aimed :
      (m : Machine) (r : Search) → Gathering Place.trial m → after_trial m.search m.held.f m.trial.f (trial_slope m) ≡ Some r → Aimed (aiming r m)
  next_aimed m r h q =
      let k = h.2.place in
      let search = next_running m.search m.held.f m.trial.f (trial_slope m) k.search r q in
      aimed m r h.0 h.1 (record { standing = k.standing; point = k.point; direction = k.direction; search = search })

  -- the trial is held
  settled :
      (m : Machine) → PlacedOf s m → Low m.held.f → Number m.trial.f → T (le m.trial.f m.held.f) → gradient_finite m ≡ true
      → Placed s m.terms m.trial.x m.trial.x × Low m.trial.f × Standing m.terms m.trial
  settled m p l n h e = (
    record { terms = p.terms; held = p.trial; trial = p.trial },
    (λ q. (n, le_trans m.trial.f m.held.f b.held.f h (l q).1)),
    record { value = n; gradient = words_finite m.terms.n m.trial.g (holds e) },
  )

  moved :
      (m : Machine) → Gathering Place.trial m → gradient_finite m ≡ true → accepts m.search m.held.f m.trial.f (trial_slope m) ≡ true
      → Next (move (learn m))
  unfolding move learn
  moved m h e q =
      let k = h.2 in
      let fell = accepted_not_above m.search m.held.f m.trial.f (trial_slope m) k.place.search k.value.fitting k.value.whole q in
      settled m h.0 h.1 k.found fell e

  leads : Leads Gathering Seeking Aimed Next
  leads = record {
    bare = λ m h. h;
    headed = λ m d h. h;
    begun = first_aimed;
    asked = λ m h. h;
    counted = λ w m h. h;
    supplied = λ w g m h. h;
    right = λ w v m h. h;
    probed = λ w i side m h l a. (h.0, h.1, (h.2, l, a));
    steep = λ m h e. settled m h.0 h.1 h.2.found h.2.place e;
    again = next_aimed;
    moved = moved;
    gathering_ends = λ w t m h. (h.0, h.1, tt);
    seeking_ends = λ t m h. (h.0, h.1, tt);
    aimed_ends = λ t m h. (h.0, h.1, tt);
  }

  -- what is known of b itself
  level : (v : Float) → Number v → T (le v v)
  level v n = le_refl v (finite_not_nan v n.whole)

  own_low : Number b.held.f → Low b.held.f
  own_low n e = (n, level b.held.f n)

  replied : (v : ℕ) → finite (to_float v) ≡ true → Number (to_float v)
  replied v e = record { fitting = of_bits-fits binary64 v; whole = holds e }

  known : (r : Reply) (p : Phase) → b.phase ≡ p → PlacedOf s b → FactsIn b p → Known Gathering Seeking Next r b p
  known r (Phase.value Place.start) e p h =
      let none-held : (v : Float) → Low v = λ v q. absurd (true≢false (sym (ap unreported e) ∙ q)) in
      record {
        value = λ v _ f. let n = replied v f in (p, none-held (to_float v), record { value = n; found = n; place = level (to_float v) n });
        nonfinite = λ v _ f. (p, none-held (to_float v), tt);
        failed = (p, none-held b.held.f, tt);
      }
  known r (Phase.value Place.trial) e p h =
      let l = own_low h.standing.value in
      record {
        value = λ v _ f. (p, l, record { value = h.standing.value; found = replied v f; place = h });
        nonfinite = λ v _ f. (p, l, tt);
        failed = (p, l, tt);
      }
  known r (Phase.gradient w) e p h = (p, own_low h.value, h)
  known r (Phase.probe w i side) e p h = ((p, own_low h.0.value, h.0), h.1)
  known r Phase.notice e p h = (p, own_low h.value, h)
  known r (Phase.ended t) e p h = tt

-- ---- every list of replies

module _ (s : Setup) (accepted : Accepted s) where
  step : (m : Machine) (r : Reply) → takes m r ≡ true → AtQuestion s m → Next s (accepted_ordered s accepted) m (answer m r)
  step m r d h =
      let o = accepted_ordered s accepted in
      answer_leads (leads s o m) m r d (λ p e. known s o m r p e h.placed (subst (FactsIn m) e h.facts))

  pub at_question : (rs : List Reply) → Due s rs → AtQuestion s (run s rs)
  unfolding run begin
  at_question [] d = let x = start_in_box s accepted in record { placed = record { terms = refl; held = x; trial = x }; facts = tt }
  at_question (r ∷ rs) d =
      let q = step (run s rs) r (due_taken (run s rs) r d.0) (at_question rs d.1) in
      record { placed = q.0; facts = q.2 }

  -- the next value held, where there was one
  pub next_value :
      (rs : List Reply) (r : Reply) → Due s (r ∷ rs) → Reported s rs
      → Number (run s (r ∷ rs)).held.f × T (le (run s (r ∷ rs)).held.f (run s rs).held.f)
  unfolding run
  next_value rs r d e = (step (run s rs) r (due_taken (run s rs) r d.0) (at_question rs d.1)).1 e
