use Rattle.std.proofs.Common.{◌≡◌, take}
use Rattle.rule_tests.specs.Tests.{AreSources}
use Rattle.rule_tests.proofs.all_tests.read_sources.Given as goal

abbrev pub invariant-loop-name : goal.invariant-loop-name
invariant-loop-name g l = record {
  read : AreSources (g.F.Files.told l.fn.files) (take l.name-index l.names) l.sources;
  same_files : g.F.Files.told l.files ≡ g.F.Files.told l.fn.files;
}
