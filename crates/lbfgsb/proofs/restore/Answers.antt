-- `lbfgsb::restore` meets its contract. Assumes nothing.
use Rattle.lbfgsb.proofs.Restored.{built_restored}
use Rattle.lbfgsb.proofs.restore.Goals as goal

pub returns : goal.returns
returns c =
    let a = c.args in
    let x = c.reload in
    built_restored a.input.now a.fit a.area.now a.log.now _ _ c.in_ok-parsed.ensures x.result x.new.area x.new.log x.ensures.0 x.ensures.1
