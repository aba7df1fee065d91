use Rattle.std.proofs.Common.{map}
use Rattle.test_plan.proofs.Numbers.{longer_more}
use Rattle.test_plan.proofs.way.extend.Goals as goal

pub loop-way-preserved : goal.loop-way-preserved
loop-way-preserved c =
    longer_more (map (λ o. o.done) c.args.orders.now) c.args.ways.now c.loop-way.way-index c.way-item.result c.as_slice.result.now
    c.loop-way.longer c.add_longer.new.longer _ c.loop-way-test.true c.way-item.is c.as_slice.ensures c.in_ok-add_longer.ensures
    c.loop-way.invariant
