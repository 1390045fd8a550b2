-- `record::put_trailer` meets its contract. Assumes nothing.
use Rattle.std.proofs.Common.{◌*◌, ◌∙◌}
use Rattle.record.proofs.Saving.{trailer_put}
use Rattle.record.proofs.put_trailer.Goals as goal

pub returns : goal.returns
returns c =
    let a = c.args in
    c.put_word-4.ensures
    ∙ trailer_put a.out.now _ _ _ (8 * a.count) a.sums.plain a.sums.running 1 a.count c.requires c.put_word.ensures c.put_word-2.ensures
    c.put_word-3.ensures
