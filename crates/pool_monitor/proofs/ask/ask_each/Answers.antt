use Rattle.std.proofs.Common.{arith}
use Rattle.pool_monitor.specs.Pump.{IsAsked}
use Rattle.pool_monitor.proofs.Passes.{going_all, going_more, going_none}
use Rattle.pool_monitor.proofs.ask.ask_each.Goals as goal

pub loop-member-init : goal.loop-member-init
loop-member-init g c = (going_none g.N.Net.did (IsAsked c.args.monitors.now c.args.moment) c.args.net.now c.args.members.now, omega arith)

pub loop-member-preserved : goal.loop-member-preserved
loop-member-preserved g c =
    let l = c.loop-member in
    let it = c.in_ok-ask.ensures.asked in (
      going_more g.N.Net.did (IsAsked c.args.monitors.now c.args.moment) c.args.net.now c.args.members.now l.net c.ask.new.net l.members
          l.member-index c.member-item.result c.ask.new.self (omega arith) l.invariant.0 it,
      omega (arith, l.invariant.1, c.ask.ensures.faults_never_fall),
    )

pub returns-clause-asked : goal.returns-clause-asked
returns-clause-asked g c =
    let l = c.loop-member in
    going_all g.N.Net.did (IsAsked c.args.monitors.now c.args.moment) c.args.net.now c.args.members.now l.net l.members l.member-index (omega arith) l.invariant.0
