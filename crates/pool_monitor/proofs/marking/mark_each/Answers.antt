use Rattle.std.proofs.Common.{arith}
use Rattle.pool_monitor.specs.Pump.{IsMarked}
use Rattle.pool_monitor.proofs.Passes.{adding_all, adding_more, adding_none}
use Rattle.pool_monitor.proofs.marking.mark_each.Goals as goal

pub loop-member-init : goal.loop-member-init
loop-member-init c = adding_none (IsMarked c.args.monitors.now c.args.moment) c.args.out.now c.args.members.now

pub loop-member-preserved : goal.loop-member-preserved
loop-member-preserved c =
    let l = c.loop-member in
    let it = c.in_ok-mark.ensures in
    adding_more (IsMarked c.args.monitors.now c.args.moment) c.args.out.now c.args.members.now l.out c.mark.new.out l.members
    l.member-index c.member-item.result c.mark.new.self (omega arith) l.invariant it

pub returns : goal.returns
returns c =
    let l = c.loop-member in
    adding_all (IsMarked c.args.monitors.now c.args.moment) c.args.out.now c.args.members.now l.out l.members l.member-index (omega arith) l.invariant
