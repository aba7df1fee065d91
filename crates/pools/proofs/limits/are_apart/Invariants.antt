use Rattle.std.proofs.Common.{◌≡◌, drop}
use Rattle.pools.specs.Pools.{are_apart}
use Rattle.pools.proofs.limits.are_apart.Given as goal

abbrev pub invariant-loop-at : goal.invariant-loop-at
invariant-loop-at l = are_apart (drop l.at l.members) ≡ are_apart l.members
