use Rattle.std.proofs.Common.{◌≡◌, ◌++◌, drop, option_map}
use Rattle.config.specs.Filled.{made_pools}
use Rattle.config.proofs.made_groups.shared_pools.Given as goal

abbrev pub invariant-loop-named : goal.invariant-loop-named
invariant-loop-named l = made_pools l.pools ≡ option_map (λ more. l.made ++ more) (made_pools (drop l.named-index l.pools))
