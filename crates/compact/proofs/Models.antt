-- What later crates need of a model: it stays while the vectors from the pairs on stay, and its entries. Assumes nothing.
use mathlib.Core.Path.{◌≡◌, refl, sym, ap, subst, ◌∙◌}
use mathlib.Core.List.{List, []}
use Prim.Native.Nat.{ℕ, ◌+◌, ◌*◌, ◌≤◌, ◌<◌}
use native.Mathlib.Omega.{arith}
use lib.Ieee.{Float, nan}
use Rattle.definition.specs.Number.{zero64}
use Rattle.definition.specs.Vector.{tab, word}
use Rattle.definition.specs.Solve.{Matrix, entry}
use Rattle.definition.specs.Compact as C
use Rattle.area.specs.Area.{Vecs, upd, first_pair}
use Rattle.area.proofs.Laws.{upd_other}
use Rattle.solve.specs.Factors.{Factored}
use Rattle.solve.proofs.Range.{factored_of}
use Rattle.solve.proofs.Steps.{FactorsMake}
use Rattle.compact.specs.declared.Shape.{Shape}
use Rattle.compact.specs.declared.Model.{Model}
use Rattle.compact.specs.State.{pair_slot, column_slot, pair_at, pairs_of, compact_of, Sound, Laid, PairsKept, Assembled, Prepared, Modelled}
use Rattle.compact.proofs.Laws.{tab_same, pairs_count, padded-get, place_below}

-- every vector from the pairs on is as it was
abbrev pub HighKept : Vecs → Vecs → Type 0
HighKept a b = (q : ℕ) → first_pair ≤ q → b q ≡ a q

pub high_upd : (a : Vecs) (p : ℕ) (v : List Float) → p < first_pair → HighKept a (upd a p v)
high_upd a p v l = λ q k. upd_other a p q v (λ e. omega arith)

pub pairs_kept : (h : Shape) (a b : Vecs) → HighKept a b → pairs_of h b ≡ pairs_of h a
unfolding pairs_of
pairs_kept h a b k =
    λ i. tab h.pairs (λ (j : ℕ). record { s = k (pair_slot h j) (omega arith) i; y = k (pair_slot h j + 1) (omega arith) i })

pub compact_kept : (h : Shape) (theta : Float) (a b : Vecs) → HighKept a b → compact_of h theta b ≡ compact_of h theta a
compact_kept h theta a b k = λ i. record { pairs = pairs_kept h a b k i; theta = theta; oldest = h.oldest }

pub laid_kept : {h : Shape} {theta : Float} {a : Vecs} (b : Vecs) → HighKept a b → Laid h theta a → Laid h theta b
laid_kept {h} {theta} {a} b k r = record {
  is = λ j l. k (column_slot h j) (omega arith) ∙ r.is j l ∙ ap (λ (c : C.Compact). tab h.n (C.column_word c j)) (sym (compact_kept h theta a b k));
}

pub modelled_kept : {w : Model} {a : Vecs} (b : Vecs) → HighKept a b → Modelled w a → Modelled w b
modelled_kept {w} {a} b k r = record {
  laid = laid_kept b k r.laid;
  block = r.block ∙ ap (C.block w.shape.n) (sym (compact_kept w.shape w.theta a b k));
  factors = r.factors;
}

pub prepared_kept : {w : Model} {a : Vecs} (b : Vecs) → HighKept a b → Prepared w a → Prepared w b
prepared_kept {w} {a} b k r = record {
  laid = laid_kept b k r.laid;
  factors =
      subst (λ (c : C.Compact). Factored (2 * w.shape.pairs) (C.block w.shape.n c) w.factors) (sym (compact_kept w.shape w.theta a b k)) r.factors;
}

-- the columns, the block, and what its factors make of every right side are the whole of it: the order is in range by that
pub modelled_of : {w : Model} {v : Vecs} {size : ℕ} → Sound w.shape size → Laid w.shape w.theta v
    → w.block ≡ C.block w.shape.n (compact_of w.shape w.theta v) → FactorsMake (2 * w.shape.pairs) w.block w.factors → Modelled w v
modelled_of s laid block is = record { laid = laid; block = block; factors = factored_of (omega (arith, s.few, s.most)) is }

-- what a model is enough for
pub assembled : {w : Model} {v : Vecs} → Modelled w v → Assembled w v
assembled r = record { laid = r.laid; block = r.block }

pub prepared : {w : Model} {v : Vecs} → Modelled w v → Prepared w v
prepared {w} r = record { laid = r.laid; factors = subst (λ (b : Matrix). Factored (2 * w.shape.pairs) b w.factors) r.block r.factors }

-- the vectors below the columns kept, as where the columns are laid out
pub compact_laid : {h : Shape} {size : ℕ} (theta : Float) (a b : Vecs) → Sound h size → PairsKept h a b → compact_of h theta b ≡ compact_of h theta a
unfolding pairs_of
compact_laid {h} theta a b s k =
    ap (λ ps. record { pairs = ps; theta = theta; oldest = h.oldest })
    (tab_same h.pairs (pair_at h b) (pair_at h a)
    (λ j l.
    let g = place_below j _ s (omega arith) refl in
    λ i. record { s = k (pair_slot h j) (omega arith) i; y = k (pair_slot h j + 1) (omega arith) i }))

-- one of the first sixteen vectors replaced
pub compact_upd : (h : Shape) (theta : Float) (a : Vecs) (p : ℕ) (v : List Float) → p < first_pair → compact_of h theta (upd a p v) ≡ compact_of h theta a
compact_upd h theta a p v l = compact_kept h theta a (upd a p v) (high_upd a p v l)

pub modelled_upd : {w : Model} {a : Vecs} (p : ℕ) (v : List Float) → p < first_pair → Modelled w a → Modelled w (upd a p v)
modelled_upd {a = a} p v l r = modelled_kept (upd a p v) (high_upd a p v l) r

pub prepared_upd : {w : Model} {a : Vecs} (p : ℕ) (v : List Float) → p < first_pair → Prepared w a → Prepared w (upd a p v)
prepared_upd {a = a} p v l r = prepared_kept (upd a p v) (high_upd a p v l) r

-- ---- entries

pub block_entry_lem : (n : ℕ) (c : C.Compact) (i j : ℕ) → i < 2 * C.count c → j < 2 * C.count c → entry (C.block n c) i j ≡ C.block_entry n c i j
block_entry_lem n c i j k l =
    ap (λ (r : List Float). word r j) (padded-get C.zero_row (2 * C.count c) (λ (i : ℕ). C.padded zero64 (2 * C.count c) (C.block_entry n c i)) i [] k)
    ∙ padded-get zero64 (2 * C.count c) (C.block_entry n c i) j nan l

pub assembled_entry : {w : Model} {v : Vecs} (i j : ℕ) → Assembled w v → i < 2 * w.shape.pairs → j < 2 * w.shape.pairs
    → entry w.block i j ≡ C.block_entry w.shape.n (compact_of w.shape w.theta v) i j
assembled_entry {w} {v} i j r k l =
    ap (λ (b : Matrix). entry b i j) r.block
    ∙ block_entry_lem w.shape.n (compact_of w.shape w.theta v) i j (rw (pairs_count w.shape v) k) (rw (pairs_count w.shape v) l)

pub modelled_entry : {w : Model} {v : Vecs} (i j : ℕ) → Modelled w v → i < 2 * w.shape.pairs → j < 2 * w.shape.pairs
    → entry w.block i j ≡ C.block_entry w.shape.n (compact_of w.shape w.theta v) i j
modelled_entry i j r = assembled_entry i j (assembled r)
