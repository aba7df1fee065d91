use Rattle.table_mirror.proofs.Once.{one_outcome}
use Rattle.table_mirror.proofs.laws.one_outcome.Goals as goal

pub returns : goal.returns
returns c = one_outcome
