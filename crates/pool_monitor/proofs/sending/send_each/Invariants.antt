use Rattle.std.proofs.Common.{◌≤◌}
use Rattle.pool_monitor.specs.Pump.{IsSent}
use Rattle.pool_monitor.proofs.Passes.{Going}
use Rattle.pool_monitor.proofs.sending.send_each.Given as goal

abbrev pub invariant-loop-member : goal.invariant-loop-member
invariant-loop-member g l =
    Going g.N.Net.did (IsSent l.moment) l.initial.net l.net l.initial.members l.members l.member-index
    × (g.N.Net.faults l.initial.net ≤ g.N.Net.faults l.net)
