use Rattle.std.proofs.Common.{◌≡◌, flat_map, take}
use Rattle.rule_tests.specs.Results.{Adds, chosen_in}
use Rattle.rule_tests.specs.Tests.{TestComes}
use Rattle.tested_runs.proofs.Comes.{SoFar}
use Rattle.rule_tests.proofs.all_tests.run_source.Given as goal

abbrev pub invariant-loop-test : goal.invariant-loop-test
invariant-loop-test g l = record {
  far : SoFar (TestComes (g.F.Files.told l.fn.files) l.words l.source) l.all l.source.file.tests l.test-index;
  results : Adds (g.F.Files.told l.fn.files) l.words (flat_map (chosen_in l.words l.source) (take l.test-index l.source.file.tests))
      l.fn.results l.results (g.S.Sink.written l.fn.schedule) (g.S.Sink.written l.schedule);
  same_files : g.F.Files.told l.files ≡ g.F.Files.told l.fn.files;
}
