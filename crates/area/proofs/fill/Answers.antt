-- `area::fill` meets its contract. Assumes nothing.
use Rattle.area.proofs.Laws.{put_filled}
use Rattle.area.proofs.fill.Goals as goal

pub returns : goal.returns
returns c = put_filled _ _ _ _ _ c.requires (c.fill.ensures.after (λ y h. h))
