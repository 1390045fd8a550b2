-- Laws of the floats of words: one of them, and n from a place on. Assumes nothing.
use mathlib.Core.Path.{◌≡◌, refl, sym, ap, ◌∙◌}
use mathlib.Core.List.{List, [], ◌∷◌, map}
use Prim.Native.Nat.{ℕ, zero, suc, ◌+◌, ◌≤◌, ◌<◌}
use native.Mathlib.Nat.{le_of_suc-le-suc}
use native.Mathlib.Omega.{arith}
use lib.ListN.{length, get_or, take, drop, length-map, length-drop}
use lib.Seq.{get_or-take, get_or-drop, length-take-le}
use Rattle.definition.specs.Number.{to_float}
use Rattle.definition.specs.Vector.{word}

pub word_mapped : (ws : List ℕ) (i : ℕ) → i < length ws → to_float (get_or ws i 0) ≡ word (map to_float ws) i
word_mapped [] i h = absurd (omega arith)
word_mapped (w ∷ ws) zero h = refl
word_mapped (w ∷ ws) (suc i) h = word_mapped ws i (le_of_suc-le-suc h)

-- n words from `from` on
module _ (ws : List ℕ) (n from : ℕ) (l : from + n ≤ length ws) where
  count : length (take n (drop from ws)) ≡ n
  count = length-take-le n (drop from ws) (omega (arith, length-drop from ws))

  pub float_at : (i : ℕ) → i < n → to_float (get_or ws (from + i) 0) ≡ word (map to_float (take n (drop from ws))) i
  float_at i h =
      ap to_float (sym (get_or-take n (drop from ws) i 0 h ∙ get_or-drop from ws i 0)) ∙ word_mapped (take n (drop from ws)) i (omega (arith, count))

  pub floats_count : length (map to_float (take n (drop from ws))) ≡ n
  floats_count = length-map (take n (drop from ws)) to_float ∙ count
