use Rattle.std.proofs.Common.{◌≡◌, map, take}
use Rattle.config.specs.Filled.{members_of}
use Rattle.config.proofs.made_groups.pools_of.Given as goal

abbrev pub invariant-loop-pool : goal.invariant-loop-pool
invariant-loop-pool l = l.made ≡ map members_of (take l.pool-index l.pools)
