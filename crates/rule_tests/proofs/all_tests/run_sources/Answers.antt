use Rattle.std.proofs.Common.{rules, ◌≡◌}
use Rattle.rule_tests.specs.Results.{chosen_from}
use Rattle.rule_tests.specs.Tests.{SourceComes}
use Rattle.tested_runs.specs.declared.source.TestSource.{TestSource}
use Rattle.tested_runs.proofs.Comes.{At, ends, next_by}
use Rattle.rule_tests.proofs.Results.{adds_all, adds_next, adds_none}
use Rattle.rule_tests.proofs.all_tests.run_sources.Goals as goal

pub loop-source-init : goal.loop-source-init
loop-source-init g c = record {
  far = search rules;
  results = adds_none (g.F.Files.told c.args.files.now) c.args.words.now c.args.results.now (g.S.Sink.written c.args.schedule.now);
  same_files = search rules;
}

pub loop-source-preserved : goal.loop-source-preserved
loop-source-preserved g c =
    let at : At c.args.sources.now c.loop-source.source-index c.source-item.result =
    record { within = c.loop-source-test.true; is = c.source-item.is } in record {
      far = next_by (λ told. SourceComes told c.args.words.now) (g.F.Files.told c.loop-source.files) (g.F.Files.told c.args.files.now)
          c.args.sources.now c.loop-source.source-index c.source-item.result c.loop-source.all c.in_ok-passed.passed c.both-all.result
          c.loop-source.invariant.same_files c.both-all.ensures at c.loop-source.invariant.far c.in_ok-passed.ensures.comes;
      results = adds_next TestSource (chosen_from c.args.words.now) (g.F.Files.told c.loop-source.files)
          (g.F.Files.told c.args.files.now) c.args.words.now c.args.sources.now c.loop-source.source-index c.source-item.result
          c.args.results.now c.loop-source.results c.run_source.new.results (g.S.Sink.written c.args.schedule.now)
          (g.S.Sink.written c.loop-source.schedule) (g.S.Sink.written c.run_source.new.schedule) c.loop-source.invariant.same_files at
          c.loop-source.invariant.results c.in_ok-passed.ensures.results;
      same_files = search rules;
    }

pub returns-clause-comes : goal.returns-clause-comes
returns-clause-comes g c =
    ends (SourceComes (g.F.Files.told c.args.files.now) c.args.words.now) c.args.sources.now c.loop-source.source-index
    c.loop-source.all c.loop-source-test.false c.loop-source.invariant.far

pub returns-clause-results : goal.returns-clause-results
returns-clause-results g c =
    adds_all TestSource (chosen_from c.args.words.now) (g.F.Files.told c.args.files.now) c.args.words.now c.args.sources.now
    c.loop-source.source-index c.args.results.now c.loop-source.results (g.S.Sink.written c.args.schedule.now)
    (g.S.Sink.written c.loop-source.schedule) c.loop-source-test.false c.loop-source.invariant.results
