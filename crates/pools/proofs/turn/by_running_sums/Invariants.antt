use Rattle.std.proofs.Common.{◌≡◌, ◌+◌, drop, option_map}
use Rattle.pools.specs.Groups.{weight_from}
use Rattle.pools.specs.Selection.{by_running_sums}
use Rattle.pools.proofs.turn.by_running_sums.Given as goal

abbrev pub invariant-loop-at : goal.invariant-loop-at
invariant-loop-at l = by_running_sums (weight_from l.turn.method l.turn.floor) l.members l.n
    ≡ option_map (λ k. l.at + k) (by_running_sums (weight_from l.turn.method l.turn.floor) (drop l.at l.members) l.left)
