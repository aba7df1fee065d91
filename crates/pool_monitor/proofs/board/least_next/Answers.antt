use Rattle.std.proofs.Common.{◌≡◌, arith}
use Rattle.std.specs.Prelude.{min}
use Rattle.pool_monitor.specs.Pump.{least_next, most}
use Rattle.pool_monitor.proofs.Soonest.{least_within, none_left}
use Rattle.pool_monitor.proofs.board.least_next.Goals as goal

pub loop-member-init : goal.loop-member-init
loop-member-init c = (omega (arith, least_within c.args.members.now), omega arith)

pub returns : goal.returns
returns c =
    let l = c.loop-member in
    let gone = none_left c.args.members.now l.member-index (omega arith) in
    let last : least_next c.args.members.now ≡ min l.least most = rw gone at l.invariant.0 in
    omega (arith, last)
