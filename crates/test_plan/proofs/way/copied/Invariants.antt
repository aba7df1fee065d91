use Rattle.std.proofs.Common.{◌≡◌, ◌++◌, drop}
use Rattle.test_plan.proofs.way.copied.Given as goal

abbrev pub invariant-loop-number : goal.invariant-loop-number
invariant-loop-number l = l.copy ++ drop l.number-index l.fn.numbers ≡ l.fn.numbers
