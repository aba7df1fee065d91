use Rattle.std.proofs.Common.{◌≡◌, ◌++◌, drop}
use Rattle.test_plan.specs.Plan.{groups_from}
use Rattle.test_plan.proofs.choices.groups.Given as goal

abbrev pub invariant-loop-at : goal.invariant-loop-at
invariant-loop-at l =
    l.found ++ groups_from l.fn.clients l.at (drop l.at l.fn.deeds) ≡ groups_from l.fn.clients 0 l.fn.deeds
