-- `compact::push` meets its contract: the two scratch vectors go to the place after the newest. Assumes nothing.
use Prim.Native.Nat.{ℕ, ◌+◌, ◌≤◌}
use mathlib.Core.Path.{◌≡◌, refl, ap, ◌∙◌}
use native.Mathlib.Omega.{arith}
use Rattle.area.specs.Area.{copy_of, vector_displacement, first_column}
use Rattle.compact.specs.declared.Shape.{Shape}
use Rattle.compact.specs.State.{pair_slot, Sound}
use Rattle.compact.proofs.Laws.{place_below, vector_room}
use Rattle.compact.proofs.Ring.{pair_pushed}
use Rattle.compact.proofs.push.Goals as goal

-- the place is below the columns, and so is the next vector
slot_low : {h : Shape} {size : ℕ} (k : ℕ) → Sound h size → k ≡ pair_slot h h.pairs → k + 2 ≤ first_column h.m
slot_low {h} k s e = let l = place_below h.pairs _ s (omega arith) refl in omega arith

pub copy-requires : goal.copy-requires
copy-requires c =
    let s = c.requires in
    let l = slot_low _ s c.place_slot-slot.ensures in
    (vector_room _ s (omega arith), vector_room _ s (omega arith))

pub copy-requires-2 : goal.copy-requires-2
copy-requires-2 c =
    let was = c.requires in
    let s = rw (← c.area-1.given) at was in
    let l = slot_low _ was c.place_slot-slot.ensures in
    (vector_room _ s (omega arith), vector_room _ s (omega arith))

pub returns : goal.returns
returns c =
    pair_pushed _ _ _ c.requires c.place_slot-slot.ensures (c.copy-2.ensures ∙ ap (copy_of _ vector_displacement) c.copy.ensures)
    c.pushed.ensures
