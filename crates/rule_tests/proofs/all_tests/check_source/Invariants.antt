use Rattle.std.proofs.Common.{◌≡◌, take}
use Rattle.std.specs.List.{All}
use Rattle.rule_tests.specs.Named.{IsNamed}
use Rattle.rule_tests.proofs.all_tests.check_source.Given as goal

abbrev pub invariant-loop-test : goal.invariant-loop-test
invariant-loop-test g l = record {
  named : All (IsNamed (g.F.Files.told l.fn.files) l.source) (take l.test-index l.source.file.tests);
  same_files : g.F.Files.told l.files ≡ g.F.Files.told l.fn.files;
}
