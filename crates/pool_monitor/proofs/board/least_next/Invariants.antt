use Rattle.std.proofs.Common.{◌≡◌, ◌≤◌, drop}
use Rattle.std.specs.Prelude.{min}
use Rattle.pool_monitor.specs.Pump.{least_next, most}
use Rattle.pool_monitor.proofs.board.least_next.Given as goal

abbrev pub invariant-loop-member : goal.invariant-loop-member
invariant-loop-member l = (least_next l.members ≡ min l.least (least_next (drop l.member-index l.members))) × (l.least ≤ most)
