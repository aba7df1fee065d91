use Rattle.std.proofs.Common.{arith}
use Rattle.index_lists.proofs.Rings.{distinct_none}
use Rattle.index_lists.proofs.ring.Ring.new.Goals as goal

pub invariant_of-result : goal.invariant_of-result
invariant_of-result c = (rw c.new.ensures.items distinct_none, omega arith)
