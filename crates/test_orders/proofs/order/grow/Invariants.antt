use Rattle.std.proofs.Common.{◌≡◌, ◌++◌, drop}
use Rattle.std.specs.List.{flat_map}
use Rattle.test_orders.specs.Orders.{grown, steps_of}
use Rattle.test_orders.proofs.order.grow.Given as goal

abbrev pub invariant-loop-order : goal.invariant-loop-order
invariant-loop-order l =
    l.next ++ flat_map (steps_of l.fn.groups) (drop l.order-index l.fn.orders) ≡ grown l.fn.groups l.fn.orders
