use Rattle.std.proofs.Common.{◌≡◌, ◌++◌, drop, map, take}
use Rattle.test_orders.specs.Orders.{nexts, steps_of}
use Rattle.test_orders.proofs.Growing.{one_more}
use Rattle.test_orders.proofs.order.add_nexts.Given as goal

abbrev pub invariant-loop-at : goal.invariant-loop-at
invariant-loop-at l =
    l.next ++ map (one_more l.fn.groups l.fn.order.done) (nexts l.fn.groups (take l.at l.fn.order.left) (drop l.at l.fn.order.left))
    ≡ l.initial.next ++ steps_of l.fn.groups l.fn.order
