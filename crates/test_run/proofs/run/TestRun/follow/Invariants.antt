use Rattle.std.proofs.Common.{◌≡◌, take}
use Rattle.test_run.specs.Moves.{Follows, step_from}
use Rattle.test_run.specs.Stand.{stand}
use Rattle.test_run.proofs.run.TestRun.follow.Given as goal

abbrev pub invariant-loop-one : goal.invariant-loop-one
invariant-loop-one g l =
    Follows g.C.EventCore.face l.fn.steps (take l.one-index l.fn.moves) (stand l.initial.self) (stand l.self)
    × (l.step ≡ step_from 0 (take l.one-index l.fn.moves))
