use Rattle.std.proofs.Common.{arith}
use Rattle.pool_monitor.specs.Pump.{IsSent}
use Rattle.pool_monitor.proofs.Passes.{going_all, going_more, going_none}
use Rattle.pool_monitor.proofs.sending.send_each.Goals as goal

pub loop-member-init : goal.loop-member-init
loop-member-init g c = (going_none g.N.Net.did (IsSent c.args.moment) c.args.net.now c.args.members.now, omega arith)

pub loop-member-preserved : goal.loop-member-preserved
loop-member-preserved g c =
    let l = c.loop-member in
    let it = c.in_ok-send.ensures.sent in (
      going_more g.N.Net.did (IsSent c.args.moment) c.args.net.now c.args.members.now l.net c.send.new.net l.members
          l.member-index c.member-item.result c.send.new.self (omega arith) l.invariant.0 it,
      omega (arith, l.invariant.1, c.send.ensures.faults_never_fall),
    )

pub returns-clause-sent : goal.returns-clause-sent
returns-clause-sent g c =
    let l = c.loop-member in
    going_all g.N.Net.did (IsSent c.args.moment) c.args.net.now c.args.members.now l.net l.members l.member-index (omega arith) l.invariant.0
