use Rattle.std.proofs.Common.{◌≡◌, ◌-◌, length}
use Rattle.std.specs.List.{flat_map}
use Rattle.test_orders.specs.Orders as orders
use Rattle.test_orders.proofs.Growing.{Left, ends_of}
use Rattle.test_orders.proofs.order.orders.Given as goal

abbrev pub invariant-loop : goal.invariant-loop
invariant-loop l =
    (flat_map (ends_of l.fn.groups (length l.fn.groups - l.counter)) l.found ≡ orders.orders l.fn.groups)
    × Left l.fn.groups (length l.fn.groups - l.counter) l.found
