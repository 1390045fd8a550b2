-- Laws of segments: how each one ends, and the walk over them. Assumes nothing.
use mathlib.Core.Path.{◌≡◌, refl, sym, ap, subst, ◌∙◌}
use mathlib.Core.Bool.{Bool, true, false, not, ◌&&◌}
use mathlib.Core.List.{List}
use Rattle.std.specs.Prelude.{Option, None, Some}
use Rattle.std.specs.declared.ops.ControlFlow.{ControlFlow}
use Rattle.std.specs.declared.ops.ControlFlow.TheVariants as S
use Prim.Native.Nat.{ℕ, zero, suc, ◌+◌, ◌≤◌, ◌<◌}
use native.Mathlib.Omega.{arith}
use borrow.Author.Tests.{not-true, not-false}
use lib.ListN.{get_or}
use lib.Ieee as Ieee
use lib.Ieee.{Float}
use lib.Ieee.Scale.{finite}
use Rattle.definition.specs.Number.{plus, minus, over, zero64}
use Rattle.definition.specs.Vector.{dot}
use Rattle.definition.specs.Problem.{Bounds}
use Rattle.definition.specs.Compact as C
use Rattle.definition.specs.Geometry as D
use Rattle.definition.specs.Geometry.{Break, no_break, point_on_path, travelled, passed, along, by_slope, segment, walk, still, generalized_cauchy}
use Rattle.area.specs.Area.{Vecs, bounds_of, upd, rowwise, given, first_free, ScratchOnly, vector_x, vector_g, vector_velocity, vector_displacement}
use Rattle.area.specs.Area.{vector_cauchy, vector_product_d, vector_product_z}
use Rattle.area.proofs.Laws.{scratch_refl, scratch_trans, scratch_upd}
use Rattle.compact.specs.declared.Shape.{Shape}
use Rattle.compact.specs.State.{compact_of, Multiplied}
use Rattle.compact.proofs.Models.{compact_kept, compact_upd}
use Rattle.cauchy.specs.declared.Breaks.{Breaks}
use Rattle.cauchy.specs.declared.Path.{Path}
use Rattle.cauchy.specs.State.{break_list, Found, path_of, travelled_of, Travels, Begins, Points, PathPoint, segment_of, LeadsAlong, Segments}
use Rattle.cauchy.proofs.Paths.{bounds_kept}

-- ---- with a slope below zero and a curvature above

module _ (n : ℕ) (b : Bounds) (x : List Float) (bs : List Break) (p : D.Path) (next m : Float) where
  along_none : finite m ≡ false → along n b x bs p next m ≡ D.Segment.ended None
  unfolding along
  along_none e = rw e refl

  along_in : finite m ≡ true → Ieee.lt m (minus next p.previous) ≡ true → along n b x bs p next m ≡ D.Segment.ended (point_on_path n b x (travelled n m p))
  unfolding along
  along_in e f = rw (e, f) refl

  along_on : finite m ≡ true → Ieee.lt m (minus next p.previous) ≡ false → along n b x bs p next m ≡ D.Segment.onward (passed n b x bs next p)
  unfolding along
  along_on e f = rw (e, f) refl

module _ (n : ℕ) (b : Breaks) (p : Path) (next m : Float) {v : Vecs} {ok : Bool} where
  pub along_fails : ok ≡ finite m → not ok ≡ true → Segments (along n (bounds_of v) (v vector_x) (break_list b) (path_of p v) next m) b v (S.Break false) v
  along_fails e f = record {
    is = sym (along_none n (bounds_of v) (v vector_x) (break_list b) (path_of p v) next m (sym e ∙ not-true ok f));
    breaks = tt;
    kept = scratch_refl;
  }

  pub along_ends : {v₁ v₂ : Vecs} {r : Bool} → ok ≡ finite m → not ok ≡ false → Ieee.lt m (minus next p.previous) ≡ true → v₁ ≡ travelled_of n m v
      → PathPoint n v₁ r v₂
      → Segments (along n (bounds_of v) (v vector_x) (break_list b) (path_of p v) next m) b v (S.Break r) v₂
  unfolding rowwise
  along_ends {v₁} {v₂} {r} e f l t q = record {
    is =
        ap D.Segment.ended (q.is p ∙ ap (λ (u : Vecs). point_on_path n (bounds_of u) (u vector_x) (path_of p u)) t)
        ∙ sym (along_in n (bounds_of v) (v vector_x) (break_list b) (path_of p v) next m (sym e ∙ not-false ok f) l);
    breaks = tt;
    kept = scratch_trans (rw t (scratch_upd _ _ (omega arith) (omega arith) scratch_refl)) q.kept;
  }

  pub along_leads : {q : Path} {v₁ : Vecs} → p.breaks.now ≡ b → ok ≡ finite m → not ok ≡ false → Ieee.lt m (minus next p.previous) ≡ false
      → Travels (passed n (bounds_of v) (v vector_x) (break_list b) next) p v q v₁
      → Segments (along n (bounds_of v) (v vector_x) (break_list b) (path_of p v) next m) b v (S.Continue q) v₁
  along_leads d e f l q = record {
    is = ap D.Segment.onward q.is ∙ sym (along_on n (bounds_of v) (v vector_x) (break_list b) (path_of p v) next m (sym e ∙ not-false ok f) l);
    breaks = q.breaks ∙ d;
    kept = q.kept;
  }

-- ---- by the slope and the curvature

module _ (n : ℕ) (b : Bounds) (x : List Float) (bs : List Break) (p : D.Path) (slope curvature : Float) where
  slope_none : (finite slope && finite curvature && Ieee.lt zero64 curvature) ≡ false → by_slope n b x bs p slope curvature ≡ D.Segment.ended None
  unfolding by_slope
  slope_none e = rw e refl

  slope_point : (finite slope && finite curvature && Ieee.lt zero64 curvature) ≡ true → Ieee.le zero64 slope ≡ true
      → by_slope n b x bs p slope curvature ≡ D.Segment.ended (point_on_path n b x p)
  unfolding by_slope
  slope_point e f = rw (e, f) refl

  slope_along : (finite slope && finite curvature && Ieee.lt zero64 curvature) ≡ true → Ieee.le zero64 slope ≡ false
      → by_slope n b x bs p slope curvature ≡ along n b x bs p (get_or bs p.event no_break).time (over (Ieee.neg slope) curvature)
  unfolding by_slope
  slope_along e f = rw (e, f) refl

module _ (n : ℕ) (b : Breaks) (p : Path) (slope curvature : Float) {v : Vecs} where
  pub slope_fails : (finite slope && finite curvature && Ieee.lt zero64 curvature) ≡ false
      → Segments (by_slope n (bounds_of v) (v vector_x) (break_list b) (path_of p v) slope curvature) b v (S.Break false) v
  slope_fails e = record {
    is = sym (slope_none n (bounds_of v) (v vector_x) (break_list b) (path_of p v) slope curvature e);
    breaks = tt;
    kept = scratch_refl;
  }

  pub slope_ends : {r : Bool} {v₁ : Vecs} → (finite slope && finite curvature && Ieee.lt zero64 curvature) ≡ true → Ieee.le zero64 slope ≡ true
      → PathPoint n v r v₁
      → Segments (by_slope n (bounds_of v) (v vector_x) (break_list b) (path_of p v) slope curvature) b v (S.Break r) v₁
  slope_ends e f q = record {
    is = ap D.Segment.ended (q.is p) ∙ sym (slope_point n (bounds_of v) (v vector_x) (break_list b) (path_of p v) slope curvature e f);
    breaks = tt;
    kept = q.kept;
  }

  pub slope_goes : {next : Float} {r : ControlFlow Bool Path} {v₁ : Vecs} → (finite slope && finite curvature && Ieee.lt zero64 curvature) ≡ true
      → Ieee.le zero64 slope ≡ false
      → next ≡ (get_or (break_list b) p.event no_break).time
      → Segments (along n (bounds_of v) (v vector_x) (break_list b) (path_of p v) next (over (Ieee.neg slope) curvature)) b v r v₁
      → Segments (by_slope n (bounds_of v) (v vector_x) (break_list b) (path_of p v) slope curvature) b v r v₁
  slope_goes e f t q = record {
    is = q.is ∙ rw t (sym (slope_along n (bounds_of v) (v vector_x) (break_list b) (path_of p v) slope curvature e f));
    breaks = q.breaks;
    kept = q.kept;
  }

-- ---- one segment

module _ (n : ℕ) (b : Bounds) (c : C.Compact) (x g : List Float) (bs : List Break) (p : D.Path) where
  segment_point : still n p.direction ≡ true → segment n b c x g bs p ≡ D.Segment.ended (point_on_path n b x p)
  unfolding segment
  segment_point e = rw e refl

  segment_none₁ : still n p.direction ≡ false → C.product n c p.direction ≡ None → segment n b c x g bs p ≡ D.Segment.ended None
  unfolding segment
  segment_none₁ e f = rw (e, f) refl

  segment_none₂ : (bd : List Float) → still n p.direction ≡ false → C.product n c p.direction ≡ Some bd → C.product n c p.displacement ≡ None
      → segment n b c x g bs p ≡ D.Segment.ended None
  unfolding segment
  segment_none₂ bd e f h = rw (e, f, h) refl

  segment_slope : (bd bz : List Float) → still n p.direction ≡ false → C.product n c p.direction ≡ Some bd → C.product n c p.displacement ≡ Some bz
      → segment n b c x g bs p ≡ by_slope n b x bs p (plus (dot n g p.direction) (dot n bz p.direction)) (dot n p.direction bd)
  unfolding segment
  segment_slope bd bz e f h = rw (e, f, h) refl

-- the definition's segment, from the vectors v
abbrev pub segment_at : Shape → Float → Breaks → Path → Vecs → D.Segment
segment_at h theta b p v = segment h.n (bounds_of v) (compact_of h theta v) (v vector_x) (v vector_g) (break_list b) (path_of p v)

-- the products that there are, and that there are not
made : {h : Shape} {theta : Float} {k q : ℕ} {a : Vecs} {ok : Bool} {b : Vecs} → Multiplied h theta k q a ok b → ok ≡ true
    → C.product h.n (compact_of h theta a) (a q) ≡ Some (b k)
made {k = k} {b = b} r e = sym r.is ∙ ap (λ (t : Bool). given t (b k)) e

missed : {h : Shape} {theta : Float} {k q : ℕ} {a : Vecs} {ok : Bool} {b : Vecs} → Multiplied h theta k q a ok b → ok ≡ false
    → C.product h.n (compact_of h theta a) (a q) ≡ None
missed {k = k} {b = b} r e = sym r.is ∙ ap (λ (t : Bool). given t (b k)) e

-- the second product is one of the vectors before the first
earlier : {h : Shape} {theta : Float} {a : Vecs} {ok : Bool} {b : Vecs} → Multiplied h theta vector_product_d vector_velocity a ok b
    → C.product h.n (compact_of h theta b) (b vector_displacement) ≡ C.product h.n (compact_of h theta a) (a vector_displacement)
earlier {h} {theta} {a} {ok} {b} r =
    ap (λ (u : Vecs). C.product h.n (compact_of h theta u) (u vector_displacement)) r.frame
    ∙ ap (λ (c : C.Compact). C.product h.n c (a vector_displacement)) (compact_upd h theta a vector_product_d (b vector_product_d) (omega arith))

pub product_kept : {h : Shape} {theta : Float} {q : ℕ} {a : Vecs} {ok : Bool} {b : Vecs} (k : ℕ) → Multiplied h theta k q a ok b → 8 ≤ k → k < first_free
    → ScratchOnly a b
product_kept k r l m = rw r.frame (scratch_upd k _ l m scratch_refl)

module _ (h : Shape) (theta : Float) (b : Breaks) (p : Path) {v : Vecs} {s : Bool} (at : s ≡ still h.n (v vector_velocity)) where
  pub segment_ends : {r : Bool} {w : Vecs} → s ≡ true → PathPoint h.n v r w → Segments (segment_at h theta b p v) b v (S.Break r) w
  segment_ends e q = record {
    is =
        ap D.Segment.ended (q.is p)
        ∙ sym (segment_point h.n (bounds_of v) (compact_of h theta v) (v vector_x) (v vector_g) (break_list b) (path_of p v) (sym at ∙ e));
    breaks = tt;
    kept = q.kept;
  }

  module _ {ok₁ : Bool} {v₁ : Vecs} (moves : s ≡ false) (first : Multiplied h theta vector_product_d vector_velocity v ok₁ v₁) where
    pub segment_fails₁ : not ok₁ ≡ true → Segments (segment_at h theta b p v) b v (S.Break false) v₁
    segment_fails₁ e = record {
      is =
          sym (segment_none₁ h.n (bounds_of v) (compact_of h theta v) (v vector_x) (v vector_g) (break_list b) (path_of p v) (sym at ∙ moves)
          (missed first (not-true ok₁ e)));
      breaks = tt;
      kept = product_kept vector_product_d first (omega arith) (omega arith);
    }

    module _ {ok₂ : Bool} {v₂ : Vecs} (good : not ok₁ ≡ false) (second : Multiplied h theta vector_product_z vector_displacement v₁ ok₂ v₂) where
      both_kept : ScratchOnly v v₂
      both_kept =
          scratch_trans (product_kept vector_product_d first (omega arith) (omega arith))
          (product_kept vector_product_z second (omega arith) (omega arith))

      pub segment_fails₂ : not ok₂ ≡ true → Segments (segment_at h theta b p v) b v (S.Break false) v₂
      segment_fails₂ e = record {
        is =
            sym (segment_none₂ h.n (bounds_of v) (compact_of h theta v) (v vector_x) (v vector_g) (break_list b) (path_of p v) (v₁ vector_product_d)
            (sym at ∙ moves) (made first (not-false ok₁ good)) (sym (earlier first) ∙ missed second (not-true ok₂ e)));
        breaks = tt;
        kept = both_kept;
      }

      pub segment_goes : {slope curvature : Float} {r : ControlFlow Bool Path} {w : Vecs} → not ok₂ ≡ false
          → slope ≡ plus (dot h.n (v₂ vector_g) (v₂ vector_velocity)) (dot h.n (v₂ vector_product_z) (v₂ vector_velocity))
          → curvature ≡ dot h.n (v₁ vector_velocity) (v₁ vector_product_d)
          → Segments (by_slope h.n (bounds_of v₂) (v₂ vector_x) (break_list b) (path_of p v₂) slope curvature) b v₂ r w
          → Segments (segment_at h theta b p v) b v r w
      segment_goes e f g q =
          let bd = v₁ vector_product_d in
          let bz = v₂ vector_product_z in
          let n = h.n in
          let bs = break_list b in
          let frame : v₂ ≡ upd (upd v vector_product_d bd) vector_product_z bz = second.frame ∙ ap (λ (u : Vecs). upd u vector_product_z bz) first.frame in
          let along : v₁ vector_velocity ≡ v vector_velocity = λ i. first.frame i vector_velocity in
          let slope_at : Vecs → Float = λ (u : Vecs). plus (dot n (u vector_g) (u vector_velocity)) (dot n (u vector_product_z) (u vector_velocity)) in
          let slope_v : Float = plus (dot n (v vector_g) (v vector_velocity)) (dot n bz (v vector_velocity)) in
          record {
            is = q.is ∙ rw (f, g)
                (ap (λ (u : Vecs). by_slope n (bounds_of u) (u vector_x) bs (path_of p u) (slope_at u) (dot n (v₁ vector_velocity) bd)) frame)
                ∙ ap (λ (d : List Float). by_slope n (bounds_of v) (v vector_x) bs (path_of p v) slope_v (dot n d bd)) along
                ∙ sym (segment_slope n (bounds_of v) (compact_of h theta v) (v vector_x) (v vector_g) bs (path_of p v) bd bz (sym at ∙ moves)
                (made first (not-false ok₁ good)) (sym (earlier first) ∙ made second (not-false ok₂ e)));
            breaks = q.breaks;
            kept = scratch_trans both_kept q.kept;
          }

-- ---- the walk

module _ (n : ℕ) (b : Bounds) (c : C.Compact) (x g : List Float) (bs : List Break) where
  walk_ended : (left : ℕ) (r : Option (List Float)) → walk left n b c x g bs (D.Segment.ended r) ≡ r
  unfolding walk
  walk_ended zero r = refl
  walk_ended (suc left) r = refl

  walk_none : (p : D.Path) → walk 0 n b c x g bs (D.Segment.onward p) ≡ None
  unfolding walk
  walk_none p = refl

  walk_more : (left : ℕ) (p : D.Path) → walk (suc left) n b c x g bs (D.Segment.onward p) ≡ walk left n b c x g bs (segment n b c x g bs p)
  unfolding walk
  walk_more left p = refl

-- what is left of the walk with the vectors a, from a segment of it
abbrev pub walk_at : Shape → Float → Breaks → Vecs → ℕ → D.Segment → Option (List Float)
walk_at h theta b a left s = walk left h.n (bounds_of a) (compact_of h theta a) (a vector_x) (a vector_g) (break_list b) s

-- the segment is that of the vectors before
segment_kept : (h : Shape) (theta : Float) (b : Breaks) (p : Path) {a v : Vecs} → ScratchOnly a v
    → segment_at h theta b p v ≡ segment h.n (bounds_of a) (compact_of h theta a) (a vector_x) (a vector_g) (break_list b) (path_of p v)
segment_kept h theta b p {a} {v} k =
    λ i. segment h.n (bounds_kept k i) (compact_kept h theta a v k.high i) (k.low vector_x (omega arith) i) (k.low vector_g (omega arith) i) (break_list b)
    (path_of p v)

-- the path p with the vectors v, and `left` segments more, are on their way from p₀ with a
pub record Walking (h : Shape) (theta : Float) (b : Breaks) (left₀ : ℕ) (p₀ : Path) (a : Vecs) (left : ℕ) (p : Path) (v : Vecs) : Type 0 where
  pub is : walk_at h theta b a left (D.Segment.onward (path_of p v)) ≡ walk_at h theta b a left₀ (D.Segment.onward (path_of p₀ a))
  pub breaks : p.breaks.now ≡ b
  pub kept : ScratchOnly a v

-- with no segment left
pub walking_stops : {h : Shape} {theta : Float} {b : Breaks} {left₀ : ℕ} {p₀ : Path} {a : Vecs} {left : ℕ} {p : Path} {v : Vecs}
    → Walking h theta b left₀ p₀ a left p v → left ≡ 0 → Points (walk_at h theta b a left₀ (D.Segment.onward (path_of p₀ a))) a false v
walking_stops {h} {theta} {b} {left₀} {p₀} {a} {left} {p} {v} here e = record {
  is =
      sym (walk_none h.n (bounds_of a) (compact_of h theta a) (a vector_x) (a vector_g) (break_list b) (path_of p v))
      ∙ rw e at here.is;
  kept = here.kept;
}

module _ {h : Shape} {theta : Float} {b : Breaks} {left₀ : ℕ} {p₀ : Path} {a : Vecs} {left : ℕ} {p : Path} {v : Vecs} {r : ControlFlow Bool Path} {w : Vecs}
    (here : Walking h theta b left₀ p₀ a left p v) (next : Segments (segment_at h theta b p v) b v r w) (more : ℕ) (one : left ≡ suc more) where
  -- what one segment makes of the walk
  walking : walk_at h theta b a more (segment_of r w) ≡ walk_at h theta b a left₀ (D.Segment.onward (path_of p₀ a))
  walking =
      ap (walk_at h theta b a more) (next.is ∙ segment_kept h theta b p here.kept)
      ∙ sym (walk_more h.n (bounds_of a) (compact_of h theta a) (a vector_x) (a vector_g) (break_list b) more (path_of p v))
      ∙ (rw one at here.is)

  pub walking_more : (q : Path) → r ≡ S.Continue q → Walking h theta b left₀ p₀ a more q w
  walking_more q e = record { is = rw e at walking; breaks = subst (LeadsAlong b) e next.breaks; kept = scratch_trans here.kept next.kept }

  pub walking_ends : (ok : Bool) → r ≡ S.Break ok → Points (walk_at h theta b a left₀ (D.Segment.onward (path_of p₀ a))) a ok w
  walking_ends ok e = record {
    is =
        sym (walk_ended h.n (bounds_of a) (compact_of h theta a) (a vector_x) (a vector_g) (break_list b) more (given ok (w vector_cauchy)))
        ∙ rw e at walking;
    kept = scratch_trans here.kept next.kept;
  }

-- the walk from its start
pub walks : (h : Shape) (theta : Float) {b : Breaks} {p : Path} {v a : Vecs} {ok : Bool} {w : Vecs} → Found h.n v b → Begins h.n b v p a
    → Points (walk_at h theta p.breaks.now a (h.n + 2) (D.Segment.onward (path_of p a))) a ok w
    → Points (generalized_cauchy h.n (bounds_of v) (compact_of h theta v) (v vector_x) (v vector_g)) v ok w
unfolding generalized_cauchy
walks h theta {b} {p} {v} {a} {ok} {w} f s q =
    let two : h.n + 2 ≡ suc (h.n + 1) = omega arith in
    record {
      is =
          rw s.breaks at q.is
          ∙ ap (λ (k : ℕ). walk_at h theta b a k (D.Segment.onward (path_of p a))) two
          ∙ walk_more h.n (bounds_of a) (compact_of h theta a) (a vector_x) (a vector_g) (break_list b) (h.n + 1) (path_of p a)
          ∙ (λ i. walk (h.n + 1) h.n (bounds_kept s.kept i) (compact_kept h theta v a s.kept.high i) (s.kept.low vector_x (omega arith) i)
          (s.kept.low vector_g (omega arith) i) (f.is i)
          (segment h.n (bounds_kept s.kept i) (compact_kept h theta v a s.kept.high i) (s.kept.low vector_x (omega arith) i)
          (s.kept.low vector_g (omega arith) i) (f.is i) (s.is i)));
      kept = scratch_trans s.kept q.kept;
    }
