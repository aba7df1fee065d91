use Rattle.std.proofs.Common.{rules}
use Rattle.test_orders.proofs.Loops.{numbers_more, push_on}
use Rattle.test_orders.proofs.order.beginning.Goals as goal

pub loop-number-preserved : goal.loop-number-preserved
loop-number-preserved c = push_on _ _ _ _ _ _ c.in_ok-push.ensures.ok
    (numbers_more c.loop-number.number c.args.count (search rules)) c.loop-number.invariant
