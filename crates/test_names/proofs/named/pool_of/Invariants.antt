use Rattle.std.proofs.Common.{◌≡◌, drop}
use Rattle.shared_store.specs.Store as store
use Rattle.test_names.proofs.named.pool_of.Given as goal

abbrev pub invariant-loop-at : goal.invariant-loop-at
invariant-loop-at l = store.pool_of l.name (drop l.at l.pools) ≡ store.pool_of l.name l.pools
