use Rattle.std.proofs.Common.{◌≡◌, ◌++◌, drop}
use Rattle.test_plan.proofs.way.add_order.Given as goal

abbrev pub invariant-loop-before : goal.invariant-loop-before
invariant-loop-before l = l.longer ++ drop l.before-index l.fn.way ≡ l.fn.way
