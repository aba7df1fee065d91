use Rattle.px_bytes.proofs.GlobTests.{matches_is_glob}
use Rattle.px_bytes.proofs.pattern.matches_is_glob.Goals as goal

pub returns : goal.returns
returns c = matches_is_glob
