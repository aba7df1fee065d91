use Rattle.std.proofs.Common.{◌≡◌, flat_map, take}
use Rattle.rule_tests.specs.Results.{Adds, chosen_from}
use Rattle.rule_tests.specs.Tests.{SourceComes}
use Rattle.tested_runs.proofs.Comes.{SoFar}
use Rattle.rule_tests.proofs.all_tests.run_sources.Given as goal

abbrev pub invariant-loop-source : goal.invariant-loop-source
invariant-loop-source g l = record {
  far : SoFar (SourceComes (g.F.Files.told l.fn.files) l.words) l.all l.sources l.source-index;
  results : Adds (g.F.Files.told l.fn.files) l.words (flat_map (chosen_from l.words) (take l.source-index l.sources)) l.fn.results l.results
      (g.S.Sink.written l.fn.schedule) (g.S.Sink.written l.schedule);
  same_files : g.F.Files.told l.files ≡ g.F.Files.told l.fn.files;
}
