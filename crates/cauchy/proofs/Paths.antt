-- Laws of the path: where it starts, how it travels, where it stops, and the point on it. Assumes nothing.
use mathlib.Core.Path.{◌≡◌, refl, sym, ap, ◌∙◌}
use mathlib.Core.Bool.{Bool, true, false, cond, ◌&&◌}
use mathlib.Core.List.{List}
use Rattle.std.specs.Prelude.{Option, None, Some}
use Rattle.std.specs.Borrow.{Bor}
use Prim.Native.Nat.{ℕ, zero, suc, ◌+◌, ◌-◌, ◌*◌, ◌≤◌, ◌<◌}
use native.Mathlib.Omega.{arith}
use borrow.Author.Tests.{not-true, not-false}
use lib.ListN.{length, get_or, take, drop, length-take, length-drop}
use lib.Seq.{take-suc, take_all, get_or-take, get_or-drop, length-take-le}
use lib.Ieee as Ieee
use Rattle.std.specs.List.{list_all}
use Rattle.std.proofs.lemmas.List.Recursion.{and_push}
use Rattle.std.specs.declared.iter.Skip.{Skip}
use Rattle.std.specs.Iterator.Adapters.{skip_source, skip_count, skip_steps}
use Rattle.std.proofs.lemmas.Iterator.{YieldsList}
use Rattle.std.proofs.lemmas.Iterator.Adapters.{YieldsList-from_skip}
use Rattle.std.proofs.lemmas.Iterator.Consumers.{YieldsList-at}
use lib.Ieee.{Float, nan}
use Rattle.definition.specs.Number.{minus, zero64}
use Rattle.definition.specs.Vector.{fold_to, word, all_finite}
use Rattle.definition.specs.Problem.{Bounds}
use Rattle.definition.specs.Geometry as D
use Rattle.definition.specs.Geometry.{Break, no_break, point_on_path, stopped, stop_all, reached, passed, still}
use Rattle.area.specs.Area.{Vecs, bounds_of, view, words_at, rowwise, first_pair, fill_of, put_word, given, ScratchOnly}
use Rattle.area.specs.Area.{vector_x, vector_lower, vector_upper, vector_velocity, vector_displacement, vector_active, vector_cauchy}
use Rattle.area.proofs.Laws.{scratch_refl, scratch_trans, scratch_upd, part_lent, length-view}
use Rattle.cauchy.specs.declared.BreakTime.{BreakTime}
use Rattle.cauchy.specs.declared.Breaks.{Breaks}
use Rattle.cauchy.specs.declared.Path.{Path}
use Rattle.cauchy.specs.State.{no_break_time, break_of, break_list, Listed, velocity_in, bound_in}
use Rattle.cauchy.specs.State.{point_in, path_of, travelled_of, Travels, Begins, PathPoint}
use Rattle.cauchy.proofs.Order.{words-view, get_any, breaks_length, break_get}

-- ---- whether it stands still

abbrev pub is_zero : Float → Bool
is_zero x = Ieee.eq x zero64

still_to : (v : List Float) (n : ℕ) → n ≤ length v → list_all is_zero (take n v) ≡ still n v
unfolding fold_to
still_to v zero h = refl
still_to v (suc n) h =
    rw (take-suc v n nan (omega arith))
    (and_push (list_all is_zero) is_zero refl (λ _ _. refl) (take n v) (word v n)
    ∙ ap (λ (t : Bool). t && is_zero (word v n)) (still_to v n (omega arith)))

-- over the part of the area that is lent
pub still_all : (a : List Float) (n : ℕ) → first_pair * n ≤ length a
    → list_all is_zero (take (vector_velocity * n + n - vector_velocity * n) (drop (vector_velocity * n) a)) ≡ still n (view a n vector_velocity)
still_all a n h =
    let v = view a n vector_velocity in
    let long : length v ≡ n = length-view a n vector_velocity (omega arith) in
    ap (list_all is_zero) (part_lent a vector_velocity n ∙ sym (take_all n v (omega arith))) ∙ still_to v n (omega arith)

-- ---- what stays

pub bounds_kept : {a b : Vecs} → ScratchOnly a b → bounds_of b ≡ bounds_of a
bounds_kept k = λ i. record { lower = k.low vector_lower (omega arith) i; upper = k.low vector_upper (omega arith) i }

-- ---- the start

pub begins : (n : ℕ) (b : Bor Breaks) (v : Vecs) {v₁ v₂ v₃ : Vecs} {t : Float} → v₁ ≡ rowwise n vector_velocity (λ i w. velocity_in w) v
    → v₂ ≡ fill_of n vector_displacement zero64 v₁ → t ≡ nan → v₃ ≡ fill_of n vector_active t v₂
    → Begins n b.now v (record { breaks = b; previous = zero64; event = 0 }) v₃
unfolding rowwise fill_of
begins n b v d e t f = record {
  is = rw (f, t, e, d) refl;
  breaks = refl;
  kept =
      rw (f, e, d)
      (scratch_upd _ _ (omega arith) (omega arith) (scratch_upd _ _ (omega arith) (omega arith) (scratch_upd _ _ (omega arith) (omega arith) scratch_refl)));
}

-- ---- the point

given_is : (ok : Bool) (v : List Float) → given ok v ≡ cond ok (Some v) None
given_is true v = refl
given_is false v = refl

pub points : (n : ℕ) (v : Vecs) {v₁ : Vecs} {ok : Bool} → v₁ ≡ rowwise n vector_cauchy (λ i w. point_in w) v → ok ≡ all_finite n (v₁ vector_cauchy)
    → PathPoint n v ok v₁
unfolding rowwise point_on_path
points n v {v₁} {ok} e f = record {
  is = λ p. given_is ok (v₁ vector_cauchy) ∙ rw (f, e) refl;
  kept = rw e (scratch_upd _ _ (omega arith) (omega arith) scratch_refl);
}

-- ---- a coordinate stops

pub stops : (a : List Float) (n i : ℕ) (p : Path) {bound x : Float} {v₁ v₂ v₃ : Vecs} → i < n → bound ≡ bound_in (words_at a n i) → x ≡ words_at a n i vector_x
    → v₁ ≡ put_word (view a n) vector_velocity i zero64 → v₂ ≡ put_word v₁ vector_displacement i (minus bound x) → v₃ ≡ put_word v₂ vector_active i bound
    → Travels (stopped (bounds_of (view a n)) (view a n vector_x) i) p (view a n)
    (record { breaks = p.breaks; previous = p.previous; event = p.event + 1 }) v₃
stops a n i p {bound} {x} h b y d e f =
    let w = words-view a n i h in
    let c : bound ≡ bound_in (λ (q : ℕ). word (view a n q) i) = b ∙ ap bound_in w in
    let z : x ≡ word (view a n vector_x) i = y ∙ ap (λ (g : ℕ → Float). g vector_x) w in
    record {
      is = rw (f, e, d, c, z) refl;
      breaks = refl;
      kept =
          rw (f, e, d) (scratch_upd _ _ (omega arith) (omega arith)
          (scratch_upd _ _ (omega arith) (omega arith) (scratch_upd _ _ (omega arith) (omega arith) scratch_refl)));
    }

-- ---- every break at a time stops its coordinate

module _ (b : Bounds) (x : List Float) (bs : List Break) (t : Float) (k : ℕ) (p : D.Path) where
  stop_past : k ≤ p.event → stop_all (k - p.event) b x bs t p ≡ p
  unfolding stop_all
  stop_past h = let e : k - p.event ≡ 0 = omega arith in rw e refl

  stop_rest : p.event < k → Ieee.eq (get_or bs p.event no_break).time t ≡ false → stop_all (k - p.event) b x bs t p ≡ p
  unfolding stop_all
  stop_rest h q = let e : k - p.event ≡ suc (k - suc p.event) = omega arith in rw (e, q) refl

  stop_next : p.event < k → Ieee.eq (get_or bs p.event no_break).time t ≡ true
      → stop_all (k - p.event) b x bs t p ≡ stop_all (k - (p.event + 1)) b x bs t (stopped b x (get_or bs p.event no_break).coordinate p)
  unfolding stop_all
  stop_next h q = let e : k - p.event ≡ suc (k - (p.event + 1)) = omega arith in rw (e, q) refl

-- the path p with the vectors a is on its way from p₀ with a₀
pub record Stopping (b : Breaks) (t : Float) (p₀ : Path) (a₀ : Vecs) (p : Path) (a : Vecs) : Type 0 where
  pub is : stop_all (b.count - p.event) (bounds_of a₀) (a₀ vector_x) (break_list b) t (path_of p a)
      ≡ stop_all (b.count - p₀.event) (bounds_of a₀) (a₀ vector_x) (break_list b) t (path_of p₀ a₀)
  pub breaks : p.breaks.now ≡ p₀.breaks.now
  pub kept : ScratchOnly a₀ a

-- past the last break, and before one at another time
pub stopping_past : {b : Breaks} {t : Float} {p₀ : Path} {a₀ : Vecs} {p : Path} {a : Vecs} → Stopping b t p₀ a₀ p a → b.count ≤ p.event
    → Travels (stop_all (b.count - p₀.event) (bounds_of a₀) (a₀ vector_x) (break_list b) t) p₀ a₀ p a
stopping_past {b} {t} {p₀} {a₀} {p} {a} s h =
    record {
      is = sym (stop_past (bounds_of a₀) (a₀ vector_x) (break_list b) t b.count (path_of p a) h) ∙ s.is;
      breaks = s.breaks;
      kept = s.kept;
    }

pub stopping_rest : {n : ℕ} {b : Breaks} {t : Float} {p₀ : Path} {a₀ : Vecs} {p : Path} {a : Vecs} {k : BreakTime} → Listed n b → Stopping b t p₀ a₀ p a
    → p.event < b.count → k ≡ get_or b.list p.event no_break_time → Ieee.eq k.time t ≡ false
    → Travels (stop_all (b.count - p₀.event) (bounds_of a₀) (a₀ vector_x) (break_list b) t) p₀ a₀ p a
stopping_rest {n} {b} {t} {p₀} {a₀} {p} {a} {k} l s h e f =
    let g : get_or (break_list b) p.event no_break ≡ break_of k = break_get b p.event h (omega (arith, l.few, l.long)) ∙ ap break_of (sym e) in
    record {
      is = sym (stop_rest (bounds_of a₀) (a₀ vector_x) (break_list b) t b.count (path_of p a) h (rw g f)) ∙ s.is;
      breaks = s.breaks;
      kept = s.kept;
    }

pub stopping_more : {n : ℕ} {b : Breaks} {t : Float} {p₀ : Path} {a₀ : Vecs} {p : Path} {a : Vecs} {k : BreakTime} {q : Path} {c : Vecs} → Listed n b
    → Stopping b t p₀ a₀ p a
    → p.event < b.count → k ≡ get_or b.list p.event no_break_time → Ieee.eq k.time t ≡ true
    → Travels (stopped (bounds_of a) (a vector_x) k.coordinate) p a q c
    → Stopping b t p₀ a₀ q c
stopping_more {n} {b} {t} {p₀} {a₀} {p} {a} {k} {q} {c} l s h e f r =
    let g : get_or (break_list b) p.event no_break ≡ break_of k = break_get b p.event h (omega (arith, l.few, l.long)) ∙ ap break_of (sym e) in
    record {
      is =
          ap (λ (d : D.Path). stop_all (b.count - d.event) (bounds_of a₀) (a₀ vector_x) (break_list b) t d) r.is
          ∙ (λ i. stop_all (b.count - (p.event + 1)) (bounds_of a₀) (a₀ vector_x) (break_list b) t
          (stopped (bounds_kept s.kept i) (s.kept.low vector_x (omega arith) i) k.coordinate (path_of p a)))
          ∙ ap (λ (d : Break). stop_all (b.count - (p.event + 1)) (bounds_of a₀) (a₀ vector_x) (break_list b) t
          (stopped (bounds_of a₀) (a₀ vector_x) d.coordinate (path_of p a)))
          (sym g)
          ∙ sym (stop_next (bounds_of a₀) (a₀ vector_x) (break_list b) t b.count (path_of p a) h (rw g f))
          ∙ s.is;
      breaks = r.breaks ∙ s.breaks;
      kept = scratch_trans s.kept r.kept;
    }

-- at the time, and at another
pub at_time : (x y : Float) → Ieee.ne x y ≡ false → Ieee.eq x y ≡ true
unfolding Ieee.ne
at_time x y e = not-false (Ieee.eq x y) e

pub not_at_time : (x y : Float) → Ieee.ne x y ≡ true → Ieee.eq x y ≡ false
unfolding Ieee.ne
not_at_time x y e = not-true (Ieee.eq x y) e

-- the breaks behind the first n, as a loop goes over them
pub breaks_behind : {S : Type 0} {steps : S → Option (Bor BreakTime) → S → Type 0} {all : S} {rest start : Skip S} {list : List BreakTime} (n : ℕ)
    → YieldsList steps (λ x. x.now) all list → skip_source rest ≡ all → skip_count rest ≡ n → start ≡ rest
    → YieldsList (skip_steps steps) (λ x. x.now) start (drop n list)
breaks_behind n road source count same = YieldsList-from_skip n (YieldsList-at (ap skip_source same ∙ source) road) (ap skip_count same ∙ count)

-- the break at a turn of the loop
pub entry_is : (b : Breaks) (n : ℕ) {k : ℕ} (p : Path) {x : BreakTime} → p.event ≡ n + k
    → (k < length (drop n (take b.count b.list))) × (x ≡ get_or (drop n (take b.count b.list)) k x)
    → (p.event < b.count) × (x ≡ get_or b.list p.event no_break_time)
entry_is b n {k} p {x} e t =
    let items = take b.count b.list in
    let below : p.event < length items = omega (arith, t.0, length-drop n items) in
    let few : p.event < b.count = omega (arith, below, length-take b.count b.list) in (
      few,
      t.1 ∙ get_or-drop n items k x ∙ ap (λ (i : ℕ). get_or items i x) (sym e) ∙ get_any items p.event x no_break_time below
          ∙ get_or-take b.count b.list p.event no_break_time few,
    )

-- and past the last
pub none_left : {m : ℕ} (b : Breaks) (n : ℕ) {k : ℕ} (p : Path) → Listed m b → p.event ≡ n + k → k ≡ length (drop n (take b.count b.list))
    → b.count ≤ p.event
none_left b n p h e l =
    let long : length (take b.count b.list) ≡ b.count = length-take-le b.count b.list (omega (arith, h.few, h.long)) in
    omega (arith, long, length-drop n (take b.count b.list))

pub stopped_event : {F : D.Path → D.Path} {p : Path} {a : Vecs} {q : Path} {c : Vecs} → Travels F p a q c → q.event ≡ (F (path_of p a)).event
stopped_event r = ap (λ (d : D.Path). d.event) r.is

-- ---- past a segment

pub passes : {n : ℕ} {b : Breaks} {t : Float} {p : Path} {v v₁ : Vecs} {q : Path} {v₂ : Vecs} → Listed n b → v₁ ≡ travelled_of n (minus t p.previous) v
    → Travels (stop_all (b.count - p.event) (bounds_of v₁) (v₁ vector_x) (break_list b) t) p v₁ q v₂
    → Travels (passed n (bounds_of v) (v vector_x) (break_list b) t) p v (record { breaks = q.breaks; previous = t; event = q.event }) v₂
unfolding passed rowwise
passes {n} {b} {t} {p} {v} {v₁} {q} {v₂} l e r =
    let m : length (break_list b) ≡ b.count = breaks_length b (omega (arith, l.few, l.long)) in
    record {
      is = ap (reached t) r.is ∙ rw (e, m) refl;
      breaks = r.breaks;
      kept = scratch_trans (rw e (scratch_upd _ _ (omega arith) (omega arith) scratch_refl)) r.kept;
    }
