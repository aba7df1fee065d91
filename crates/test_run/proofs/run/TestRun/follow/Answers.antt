use Rattle.std.proofs.Common.{refl, rules}
use Rattle.test_run.specs.Moves.{RefusesMove, RestlessMove, Still}
use Rattle.test_run.specs.Stand.{stand}
use Rattle.test_run.proofs.Making.{made_more, step_more, stops_at}
use Rattle.test_run.proofs.run.TestRun.follow.Goals as goal

pub loop-one-init : goal.loop-one-init
loop-one-init g c = (Still, refl)

pub loop-one-preserved : goal.loop-one-preserved
loop-one-preserved g c = (
  made_more g.C.EventCore.face c.args.steps.now c.args.moves.now c.loop-one.one-index c.one-item.result (stand c.args.self.now)
      (stand c.loop-one.self) (stand c.make.new.self) c.loop-one-test.true c.one-item.is c.loop-one.invariant.0 (search rules),
  step_more c.args.moves.now c.loop-one.one-index c.one-item.result c.loop-one.step c.step_of-step.result c.loop-one-test.true c.one-item.is
      c.loop-one.invariant.1 c.step_of-step.ensures,
)

pub returns-in-Refused : goal.returns-in-Refused
returns-in-Refused g c =
    stops_at g.C.EventCore.face c.args.steps.now c.args.moves.now c.loop-one.one-index c.one-item.result
    (RefusesMove g.C.EventCore.face c.args.steps.now) c.loop-one.step c.step_of-step.result (stand c.args.self.now) (stand c.loop-one.self)
    (stand c.make.new.self) c.loop-one-test.true c.one-item.is c.loop-one.invariant.0 c.loop-one.invariant.1 c.step_of-step.ensures (search rules)

pub returns-in-Restless : goal.returns-in-Restless
returns-in-Restless g c =
    stops_at g.C.EventCore.face c.args.steps.now c.args.moves.now c.loop-one.one-index c.one-item.result (RestlessMove g.C.EventCore.face)
    c.loop-one.step c.step_of-step.result (stand c.args.self.now) (stand c.loop-one.self) (stand c.make.new.self) c.loop-one-test.true
    c.one-item.is c.loop-one.invariant.0 c.loop-one.invariant.1 c.step_of-step.ensures (search rules)
