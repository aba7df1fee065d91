use Rattle.std.proofs.Common.{rules, ◌≡◌}
use Rattle.rule_tests.proofs.Sources.{one_read}
use Rattle.rule_tests.proofs.all_tests.read_sources.Goals as goal

pub loop-name-preserved : goal.loop-name-preserved
loop-name-preserved g c = record {
  read = one_read (g.F.Files.told c.loop-name.files) (g.F.Files.told c.args.files.now) c.args.names.now c.loop-name.name-index
      c.name-item.result c.as_bytes.result.now c.loop-name.sources c.push.new.self c.in_ok-read_source.field-0
      c.loop-name.invariant.same_files (record { within = c.loop-name-test.true; is = c.name-item.is }) c.as_bytes.ensures
      c.loop-name.invariant.read c.in_ok-read_source.ensures.source c.in_ok-push.ensures.ok;
  same_files = search rules;
}
