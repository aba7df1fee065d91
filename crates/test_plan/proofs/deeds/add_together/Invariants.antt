use Rattle.std.proofs.Common.{◌≡◌, ◌++◌, drop}
use Rattle.std.specs.Prelude.{slice_get}
use Rattle.std.specs.List.{flat_map}
use Rattle.test_plan.specs.Plan.{numbered_moves}
use Rattle.test_plan.proofs.deeds.add_together.Given as goal

abbrev pub invariant-loop-at : goal.invariant-loop-at
invariant-loop-at l =
    l.moves ++ flat_map (λ at. numbered_moves l.fn.cut l.fn.send l.fn.step l.fn.deeds at (slice_get l.fn.deeds at)) (drop l.at-index l.fn.order)
    ≡ l.initial.moves ++ flat_map (λ at. numbered_moves l.fn.cut l.fn.send l.fn.step l.fn.deeds at (slice_get l.fn.deeds at)) l.fn.order
