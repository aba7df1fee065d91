use Rattle.px_bytes.proofs.GlobTests.{glob_is_test}
use Rattle.px_bytes.proofs.pattern.glob.Goals as goal

pub returns-clause-value : goal.returns-clause-value
returns-clause-value c = glob_is_test c.args.pattern.now c.args.text.now c.run_matches.result c.run_matches.ensures
