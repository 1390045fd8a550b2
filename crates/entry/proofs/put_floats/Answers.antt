-- `entry::put_floats` meets its contract: the first i floats stand in the output. Assumes nothing.
use native.Mathlib.Omega.{arith}
use Rattle.entry.proofs.Floats.{putting_none, laws}
use Rattle.entry.proofs.put_floats.Goals as goal

pub loop-i-init : goal.loop-i-init
loop-i-init c = let a = c.args in putting_none a.point.now _ a.out.now (omega arith) c.requires

pub loop-i-preserved : goal.loop-i-preserved
loop-i-preserved c = search laws
