use Rattle.std.proofs.Common.{rules, ◌≡◌}
use Rattle.test_text.specs.declared.test_file.TestCase.{TestCase}
use Rattle.rule_tests.specs.Results.{chosen_in}
use Rattle.rule_tests.specs.Tests.{TestComes}
use Rattle.tested_runs.proofs.Comes.{At, at_of, end_of, ends, next_by}
use Rattle.rule_tests.proofs.Results.{adds_all, adds_next, adds_none}
use Rattle.rule_tests.proofs.all_tests.run_source.Goals as goal

pub loop-test-init : goal.loop-test-init
loop-test-init g c = record {
  far = search rules;
  results = adds_none (g.F.Files.told c.args.files.now) c.args.words.now c.args.results.now (g.S.Sink.written c.args.schedule.now);
  same_files = search rules;
}

pub loop-test-preserved : goal.loop-test-preserved
loop-test-preserved g c =
    let at : At c.args.source.now.file.tests c.loop-test.test-index c.test-item.result =
    at_of TestCase c.as_slice-test-items.result.now c.args.source.now.file.tests c.loop-test.test-index c.test-item.result
    c.as_slice-test-items.ensures c.loop-test-test.true c.test-item.is in record {
      far = next_by (λ told. TestComes told c.args.words.now c.args.source.now) (g.F.Files.told c.loop-test.files)
          (g.F.Files.told c.args.files.now) c.args.source.now.file.tests c.loop-test.test-index c.test-item.result c.loop-test.all
          c.in_ok-passed.passed c.both-all.result c.loop-test.invariant.same_files c.both-all.ensures at c.loop-test.invariant.far
          c.in_ok-passed.ensures.comes;
      results = adds_next TestCase (chosen_in c.args.words.now c.args.source.now) (g.F.Files.told c.loop-test.files)
          (g.F.Files.told c.args.files.now) c.args.words.now c.args.source.now.file.tests c.loop-test.test-index c.test-item.result
          c.args.results.now c.loop-test.results c.run_chosen.new.results (g.S.Sink.written c.args.schedule.now)
          (g.S.Sink.written c.loop-test.schedule) (g.S.Sink.written c.run_chosen.new.schedule) c.loop-test.invariant.same_files at
          c.loop-test.invariant.results c.in_ok-passed.ensures.results;
      same_files = search rules;
    }

pub returns-clause-comes : goal.returns-clause-comes
returns-clause-comes g c =
    ends (TestComes (g.F.Files.told c.args.files.now) c.args.words.now c.args.source.now) c.args.source.now.file.tests
    c.loop-test.test-index c.loop-test.all
    (end_of TestCase c.as_slice-test-items.result.now c.args.source.now.file.tests c.loop-test.test-index c.as_slice-test-items.ensures
    c.loop-test-test.false)
    c.loop-test.invariant.far

pub returns-clause-results : goal.returns-clause-results
returns-clause-results g c =
    adds_all TestCase (chosen_in c.args.words.now c.args.source.now) (g.F.Files.told c.args.files.now) c.args.words.now
    c.args.source.now.file.tests c.loop-test.test-index c.args.results.now c.loop-test.results (g.S.Sink.written c.args.schedule.now)
    (g.S.Sink.written c.loop-test.schedule)
    (end_of TestCase c.as_slice-test-items.result.now c.args.source.now.file.tests c.loop-test.test-index c.as_slice-test-items.ensures
    c.loop-test-test.false)
    c.loop-test.invariant.results
