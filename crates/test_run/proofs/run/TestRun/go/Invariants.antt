use Rattle.std.proofs.Common.{◌≡◌, ◌≤◌}
use Rattle.test_run.specs.Due.{Goes, event_count, most_events}
use Rattle.test_run.specs.Stand.{stand}
use Rattle.test_run.proofs.run.TestRun.go.Given as goal

abbrev pub invariant-loop : goal.invariant-loop
invariant-loop g l =
    (goes : Goes g.C.EventCore.face (stand l.initial.self) (stand l.self)) × (event_count goes ≡ l.counter)
    × (l.counter ≤ most_events)
