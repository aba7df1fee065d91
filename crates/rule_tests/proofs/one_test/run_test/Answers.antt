use Rattle.rule_tests.proofs.Results.{result_told}
use Rattle.rule_tests.proofs.one_test.run_test.Goals as goal

pub returns-clause-told : goal.returns-clause-told
returns-clause-told g c =
    result_told (g.F.Files.told c.args.files.now) c.args.words.now c.args.source.now c.args.test.now c.in_ok-outcome.field-0
    c.in_ok-ways.ways c.as_slice.result.now c.config_name-config.result.now c.told.result (g.S.Sink.written c.args.schedule.now)
    (g.S.Sink.written c.told.new.schedule) c.config_name-config.ensures c.as_slice.ensures c.in_ok-ways.ensures.ways
    c.in_ok-outcome.ensures.comes c.in_ok-outcome.ensures.schedule c.in_ok-outcome.ensures.there c.told.ensures.passed
    c.told.ensures.placed c.told.ensures.written
