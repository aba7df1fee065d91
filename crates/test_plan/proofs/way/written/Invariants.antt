use Rattle.std.proofs.Common.{◌≡◌, ◌-◌, ◌++◌}
use Rattle.test_orders.specs.Orders.{numbers_from}
use Rattle.test_plan.proofs.way.written.Given as goal

abbrev pub invariant-loop-number : goal.invariant-loop-number
invariant-loop-number l =
    l.done ++ numbers_from l.number (l.fn.count - l.number) ≡ numbers_from 0 l.fn.count
