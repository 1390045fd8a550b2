-- The test whether state and area hold a fit, on any words; and the mark.
use Rattle.std.specs.Prelude.{ℕ, ◌*◌, ◌<◌, ◌≡◌, Bool, true, ◌&&◌, List, eqb, ltb, leb, length, Float}
use Rattle.std.specs.Float.Ieee as Ieee
use Rattle.definition.specs.Number.{one64}
use Rattle.definition.specs.Vector.{word}
use Rattle.definition.specs.Problem.{most_coordinates, most_pairs, area_words}
use Rattle.area.specs.Area.{view, vectors}
use Rattle.compact.specs.declared.Shape.{Shape}
use Rattle.counters.specs.Counts.{most_counted}
use Rattle.counters.specs.declared.Counters.{Counters}
use Rattle.problem.specs.Setups.{places_in}
use Rattle.fit.specs.State.{most_words}
use Rattle.fit.specs.declared.Fit.{Fit}
use Rattle.fit.specs.declared.Phase.{Phase}
use Rattle.fit.specs.declared.Phase.TheVariants.{Value, Gradient, Probe, Notice, Ended}

-- where the mark stands: behind the vectors
abbrev pub mark_at : Shape → ℕ
mark_at h = vectors h.m * h.n

abbrev pub shape_held : Shape → ℕ → Bool
shape_held h size =
    ltb 0 h.n && leb h.n most_coordinates && ltb 0 h.m && leb h.m most_pairs && leb h.pairs h.m && ltb h.oldest h.m
    && leb (area_words h.n h.m) size

abbrev pub counts_held : Counters → Bool
counts_held k = ltb k.nit most_counted && ltb k.njev most_counted

abbrev pub log_held : ℕ → ℕ → Bool
log_held entries words = ltb entries most_words && ltb words most_words

-- a probe is of a coordinate that there is
abbrev pub phase_held : Phase → ℕ → Bool
phase_held (Value w) n = true
phase_held (Gradient w) n = true
phase_held (Probe w i s) n = ltb i n
phase_held Notice n = true
phase_held (Ended t) n = true

-- the mark is 1, which no area of zeros has
abbrev pub marked : Shape → List Float → Bool
marked h a = Ieee.eq (word a (mark_at h)) one64

-- whether a state can be advanced with an area of `size` words: what the code tests, on any words
unfoldable pub is_ready : Fit → ℕ → Bool
is_ready t size =
    shape_held t.shape size && eqb (places_in t.options) t.shape.m && counts_held t.counters && log_held t.extra.entries t.extra.words
    && phase_held t.phase t.shape.n

-- whether state and area hold a fit
unfoldable pub is_held : Fit → List Float → Bool
is_held t a = is_ready t (length a) && marked t.shape a

-- b is a with the mark set: no vector is touched
pub record Marks (h : Shape) (a b : List Float) : Type 0 where
  pub size : length b ≡ length a
  pub mark : marked h b ≡ true
  pub kept : (q : ℕ) → q < vectors h.m → view b h.n q ≡ view a h.n q
