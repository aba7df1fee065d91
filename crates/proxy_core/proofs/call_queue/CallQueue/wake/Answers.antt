use Rattle.std.proofs.Common.{length, arith}
use Rattle.proxy_core.proofs.Wakes.{one_passed, woke}
use Rattle.proxy_core.proofs.call_queue.CallQueue.wake.Goals as goal

pub loop-passed-preserved : goal.loop-passed-preserved
loop-passed-preserved c = one_passed c.args.moment (length c.args.self.now.asleep) c.loop-passed._passed c.args.self.now c.loop-passed.self c.pass.new.self (omega (arith, c.sleeping-passed-end.ensures)) c.loop-passed.invariant c.pass.ensures

pub returns-clause-items : goal.returns-clause-items
returns-clause-items c = (woke c.args.moment c.loop-passed._passed c.args.self.now c.loop-passed.self (omega (arith, c.sleeping-passed-end.ensures)) c.loop-passed.invariant).items

pub returns-clause-asleep : goal.returns-clause-asleep
returns-clause-asleep c = (woke c.args.moment c.loop-passed._passed c.args.self.now c.loop-passed.self (omega (arith, c.sleeping-passed-end.ensures)) c.loop-passed.invariant).asleep

pub returns-clause-room : goal.returns-clause-room
returns-clause-room c = (woke c.args.moment c.loop-passed._passed c.args.self.now c.loop-passed.self (omega (arith, c.sleeping-passed-end.ensures)) c.loop-passed.invariant).room
