use Rattle.std.proofs.Common.{◌≡◌}
use Rattle.data_groups.specs.Networks.{longest_below}
use Rattle.data_groups.proofs.group.Group.longest_network.Given as goal

abbrev pub invariant-loop-bits : goal.invariant-loop-bits
invariant-loop-bits l = longest_below 33 l.ip l.self.rows ≡ longest_below l.bits l.ip l.self.rows
