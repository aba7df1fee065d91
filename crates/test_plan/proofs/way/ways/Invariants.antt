use Rattle.std.proofs.Common.{◌≡◌, drop}
use Rattle.test_plan.specs.Ways as specs
use Rattle.test_plan.proofs.way.ways.Given as goal

abbrev pub invariant-loop-step : goal.invariant-loop-step
invariant-loop-step l =
    specs.ways_from l.fn.all l.fn.clients (drop l.step-index l.fn.steps) l.found
    ≡ specs.ways l.fn.all l.fn.clients l.fn.steps
