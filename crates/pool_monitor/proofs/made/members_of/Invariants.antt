use Rattle.std.proofs.Common.{◌≡◌, ◌++◌, drop}
use Rattle.pool_monitor.specs.Made.{members_from}
use Rattle.pool_monitor.proofs.made.members_of.Given as goal

abbrev pub invariant-loop-at : goal.invariant-loop-at
invariant-loop-at l = members_from l.pools 0 l.monitors ≡ l.all.items ++ members_from l.pools l.at (drop l.at l.monitors)
