use Rattle.std.proofs.Common.{rules, ◌≡◌}
use Rattle.test_text.specs.declared.test_file.TestCase.{TestCase}
use Rattle.rule_tests.specs.Named.{IsNamed}
use Rattle.tested_runs.proofs.Comes.{all_next, all_whole, at_of, end_of}
use Rattle.rule_tests.proofs.all_tests.check_source.Goals as goal

pub loop-test-preserved : goal.loop-test-preserved
loop-test-preserved g c = record {
  named = all_next TestCase (λ told. IsNamed told c.args.source.now) (g.F.Files.told c.loop-test.files)
      (g.F.Files.told c.args.files.now) c.args.source.now.file.tests c.loop-test.test-index c.test-item.result
      c.loop-test.invariant.same_files
      (at_of TestCase c.as_slice-test-items.result.now c.args.source.now.file.tests c.loop-test.test-index c.test-item.result
      c.as_slice-test-items.ensures c.loop-test-test.true c.test-item.is)
      c.loop-test.invariant.named c.in_ok-check_test.ensures.named;
  same_files = search rules;
}

pub returns-clause-named : goal.returns-clause-named
returns-clause-named g c =
    all_whole TestCase (IsNamed (g.F.Files.told c.args.files.now) c.args.source.now) c.args.source.now.file.tests
    c.loop-test.test-index
    (end_of TestCase c.as_slice-test-items.result.now c.args.source.now.file.tests c.loop-test.test-index
    c.as_slice-test-items.ensures c.loop-test-test.false)
    c.loop-test.invariant.named
