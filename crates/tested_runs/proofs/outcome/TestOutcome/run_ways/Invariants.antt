use Rattle.std.proofs.Common.{◌≡◌, ◌<◌, IsSome, length, true, take}
use Rattle.std.specs.List.{All}
use Rattle.tested_runs.specs.Runs.{CutsCome}
use Rattle.tested_runs.specs.Schedules.{WayTold}
use Rattle.tested_runs.proofs.Kept.{Kept}
use Rattle.tested_runs.proofs.outcome.TestOutcome.run_ways.Given as goal

abbrev pub invariant-loop-orders : goal.invariant-loop-orders
invariant-loop-orders g l = record {
  passed : All (CutsCome (g.F.Files.told l.fn.files) l.config l.test.steps l.cuts true) (take l.orders-index l.ways);
  kept : l.fn.self.passed ≡ true → l.self.passed ≡ true;
  schedule : Kept l.fn.self.schedule l.self.schedule
      (WayTold (g.F.Files.told l.fn.files) l.config l.test.steps l.cuts l.ways true);
  there : 0 < length l.cuts → 0 < l.orders-index → IsSome l.self.schedule;
  same_files : g.F.Files.told l.files ≡ g.F.Files.told l.fn.files;
}
