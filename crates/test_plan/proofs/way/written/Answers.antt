use Rattle.std.proofs.Common.{rules}
use Rattle.test_plan.proofs.Numbers.{one_more}
use Rattle.test_plan.proofs.way.written.Goals as goal

pub loop-number-preserved : goal.loop-number-preserved
loop-number-preserved c = one_more c.loop-number.number c.args.count _ _ _ (search rules) c.in_ok-push.ensures.ok c.loop-number.invariant
