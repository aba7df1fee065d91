use Rattle.std.proofs.Common.{rules, ◌≡◌}
use Rattle.rule_tests.specs.Named.{AreNamed}
use Rattle.tested_runs.specs.declared.source.TestSource.{TestSource}
use Rattle.tested_runs.proofs.Comes.{all_next, all_whole}
use Rattle.rule_tests.proofs.all_tests.check_sources.Goals as goal

pub loop-source-preserved : goal.loop-source-preserved
loop-source-preserved g c = record {
  named = all_next TestSource AreNamed (g.F.Files.told c.loop-source.files) (g.F.Files.told c.args.files.now) c.args.sources.now
      c.loop-source.source-index c.source-item.result c.loop-source.invariant.same_files
      (record { within = c.loop-source-test.true; is = c.source-item.is }) c.loop-source.invariant.named
      c.in_ok-check_source.ensures.named;
  same_files = search rules;
}

pub returns-clause-named : goal.returns-clause-named
returns-clause-named g c =
    all_whole TestSource (AreNamed (g.F.Files.told c.args.files.now)) c.args.sources.now c.loop-source.source-index
    c.loop-source-test.false c.loop-source.invariant.named
