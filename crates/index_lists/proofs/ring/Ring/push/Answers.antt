use Rattle.std.proofs.Common.{arith}
use Rattle.index_lists.proofs.Rings.{distinct_push}
use Rattle.index_lists.proofs.ring.Ring.push.Goals as goal

pub invariant_of-self : goal.invariant_of-self
invariant_of-self c =
    let absent = rw (← c.self.view_is) at c.requires.absent in (
      rw c.push_back_reserved.ensures.items (distinct_push c.args.number _ c.self.invariant.0 absent),
      omega (arith, c.self.invariant.1, c.push_back_reserved.ensures.capacity),
    )
