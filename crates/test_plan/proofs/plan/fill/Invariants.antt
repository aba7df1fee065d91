use Rattle.std.proofs.Common.{◌≡◌, ◌++◌, drop}
use Rattle.test_plan.specs.Plan as plans
use Rattle.test_plan.proofs.plan.fill.Given as goal

abbrev pub invariant-loop-number : goal.invariant-loop-number
invariant-loop-number l =
    l.moves ++ plans.moves_from l.fn.cut l.fn.orders l.send l.number (drop l.number l.fn.steps)
    ≡ l.initial.moves ++ plans.plan l.fn.cut l.fn.orders l.fn.steps
