use Rattle.std.proofs.Common.{◌≡◌, ◌++◌, drop}
use Rattle.std.specs.List.{flat_map}
use Rattle.test_plan.specs.Plan.{length_of, sent_by}
use Rattle.test_plan.proofs.choices.add_lengths.Given as goal

abbrev pub invariant-loop-deed : goal.invariant-loop-deed
invariant-loop-deed l =
    l.lengths ++ flat_map (λ d. length_of (sent_by d.deed)) (drop l.deed-index l.fn.deeds)
    ≡ l.initial.lengths ++ flat_map (λ d. length_of (sent_by d.deed)) l.fn.deeds
