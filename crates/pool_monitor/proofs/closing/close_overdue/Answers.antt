use Rattle.std.proofs.Common.{arith}
use Rattle.pool_monitor.specs.Pump.{IsClosed}
use Rattle.pool_monitor.proofs.Passes.{going_all, going_more, going_none}
use Rattle.pool_monitor.proofs.closing.close_overdue.Goals as goal

pub loop-member-init : goal.loop-member-init
loop-member-init g c = (going_none g.N.Net.did (IsClosed c.args.moment) c.args.net.now c.args.members.now, omega arith)

pub loop-member-preserved : goal.loop-member-preserved
loop-member-preserved g c =
    let l = c.loop-member in
    let it = c.close_overdue.ensures.closed in (
      going_more g.N.Net.did (IsClosed c.args.moment) c.args.net.now c.args.members.now l.net c.close_overdue.new.net l.members
          l.member-index c.member-item.result c.close_overdue.new.self (omega arith) l.invariant.0 it,
      omega (arith, l.invariant.1, c.close_overdue.ensures.faults_never_fall),
    )

pub returns-clause-closed : goal.returns-clause-closed
returns-clause-closed g c =
    let l = c.loop-member in
    going_all g.N.Net.did (IsClosed c.args.moment) c.args.net.now c.args.members.now l.net l.members l.member-index (omega arith) l.invariant.0
