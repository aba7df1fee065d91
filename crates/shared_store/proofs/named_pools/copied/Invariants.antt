use Rattle.std.proofs.Common.{◌≡◌, take}
use Rattle.shared_store.proofs.named_pools.copied.Given as goal

abbrev pub invariant-loop-named : goal.invariant-loop-named
invariant-loop-named l = l.copy ≡ take l.named-index l.pools
