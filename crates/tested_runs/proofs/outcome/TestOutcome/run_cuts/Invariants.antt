use Rattle.std.proofs.Common.{◌≡◌, ◌<◌, IsSome, true, take}
use Rattle.std.specs.List.{All}
use Rattle.tested_runs.specs.Runs.{RunComes}
use Rattle.tested_runs.specs.Schedules.{CutTold}
use Rattle.tested_runs.proofs.Kept.{Kept}
use Rattle.tested_runs.proofs.outcome.TestOutcome.run_cuts.Given as goal

abbrev pub invariant-loop-cut : goal.invariant-loop-cut
invariant-loop-cut g l = record {
  passed : All (RunComes (g.F.Files.told l.fn.files) l.config l.test.steps l.orders true) (take l.cut-index l.cuts);
  kept : l.fn.self.passed ≡ true → l.self.passed ≡ true;
  schedule : Kept l.fn.self.schedule l.self.schedule
      (CutTold (g.F.Files.told l.fn.files) l.config l.test.steps l.cuts l.orders true);
  there : 0 < l.cut-index → IsSome l.self.schedule;
  same_files : g.F.Files.told l.files ≡ g.F.Files.told l.fn.files;
}
