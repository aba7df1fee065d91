use Rattle.std.proofs.Common.{◌≡◌, take}
use Rattle.std.specs.List.{All}
use Rattle.rule_tests.specs.Named.{AreNamed}
use Rattle.rule_tests.proofs.all_tests.check_sources.Given as goal

abbrev pub invariant-loop-source : goal.invariant-loop-source
invariant-loop-source g l = record {
  named : All (AreNamed (g.F.Files.told l.fn.files)) (take l.source-index l.sources);
  same_files : g.F.Files.told l.files ≡ g.F.Files.told l.fn.files;
}
