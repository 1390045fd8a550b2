-- `compact::pair_slot` meets its contract. Assumes nothing.
use Rattle.compact.proofs.Laws.{slot_is}
use Rattle.compact.proofs.pair_slot.Goals as goal

pub returns : goal.returns
returns c = slot_is _ _ _ c.requires.0 c.requires.1 c.requires.2 c.place_slot.ensures
