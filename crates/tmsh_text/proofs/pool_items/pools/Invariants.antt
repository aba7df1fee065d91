use Rattle.std.proofs.Common.{◌≡◌, ◌++◌, drop}
use Rattle.tmsh_text.specs.Printed.{pools_text}
use Rattle.tmsh_text.proofs.pool_items.pools.Given as goal

abbrev pub invariant-loop-one : goal.invariant-loop-one
invariant-loop-one l = l.text ++ pools_text (drop l.one-index l.pools) ≡ pools_text l.pools
