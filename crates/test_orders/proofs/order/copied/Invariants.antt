use Rattle.std.proofs.Common.{◌≡◌, ◌++◌, take}
use Rattle.test_orders.proofs.order.copied.Given as goal

abbrev pub invariant-loop-number : goal.invariant-loop-number
invariant-loop-number l = l.both ≡ take l.number-index l.fn.front

abbrev pub invariant-loop-number-2 : goal.invariant-loop-number-2
invariant-loop-number-2 l = l.both ≡ l.fn.front ++ take l.number-index l.fn.back
