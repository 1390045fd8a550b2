-- `area::store` meets its contract. Assumes nothing.
use Rattle.area.proofs.Laws.{put_lent}
use Rattle.area.proofs.store.Goals as goal

pub returns : goal.returns
returns c = rw c.copy_from_slice.ensures.after (put_lent _ _ _ _ c.requires.0 c.requires.1)
