use Rattle.pool_monitor.specs.Pump.{IsMarked}
use Rattle.pool_monitor.proofs.Passes.{Adding}
use Rattle.pool_monitor.proofs.marking.mark_each.Given as goal

abbrev pub invariant-loop-member : goal.invariant-loop-member
invariant-loop-member l = Adding (IsMarked l.monitors l.moment) l.initial.out l.out l.initial.members l.members l.member-index
