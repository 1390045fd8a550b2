-- `kernel_cases::load_pairs` is safe: each vector of the pairs has room in the area. Assumes nothing.
use Rattle.std.proofs.Common.{arith}
use Rattle.compact.proofs.Laws.{vector_room}
use Rattle.kernel_cases.proofs.load_pairs.Goals as goal

pub load-rest-requires : goal.load-rest-requires
load-rest-requires c = omega (arith, vector_room c.loop-vector.vector c.requires (omega arith))
