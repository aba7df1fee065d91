use Rattle.std.proofs.Common.{rules}
use Rattle.test_orders.proofs.Loops.{places_more, push_on}
use Rattle.test_orders.proofs.cut.add_places.Goals as goal

pub loop-place-preserved : goal.loop-place-preserved
loop-place-preserved c = push_on _ _ _ _ _ _ c.in_ok-push.ensures.ok
    (places_more c.args.send c.loop-place.place c.args.length (search rules)) c.loop-place.invariant
