use Rattle.std.proofs.Common.{◌≡◌, ◌++◌, drop}
use Rattle.test_plan.specs.Plan.{lengths_of}
use Rattle.test_plan.proofs.choices.lengths.Given as goal

abbrev pub invariant-loop-step : goal.invariant-loop-step
invariant-loop-step l = l.found ++ lengths_of (drop l.step-index l.fn.steps) ≡ lengths_of l.fn.steps
