use Rattle.std.proofs.Common.{take}
use Rattle.std.specs.List.{All}
use Rattle.test_run.specs.Due.{TakesNone}
use Rattle.test_run.specs.Stand.{stand}
use Rattle.test_run.proofs.run.TestRun.due_take.Given as goal

abbrev pub invariant-loop-one : goal.invariant-loop-one
invariant-loop-one g l = All (TakesNone g.C.EventCore.face (stand l.self)) (take l.one-index l.one-items)
