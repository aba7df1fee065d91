use Rattle.std.proofs.Common.{arith}
use Rattle.index_lists.proofs.Rings.{front_once_of, rest_distinct}
use Rattle.index_lists.proofs.ring.Ring.pop.Goals as goal

pub invariant_of-self : goal.invariant_of-self
invariant_of-self c = (
  rest_distinct c.pop_front.result _ _ c.pop_front.ensures.items c.self.invariant.0,
  omega (arith, c.self.invariant.1, c.pop_front.ensures.capacity),
)

pub returns-clause-once : goal.returns-clause-once
returns-clause-once c = front_once_of c.pop_front.result _ _ c.pop_front.ensures.items c.self.invariant.0
