use Rattle.record_model.proofs.FewRows.{rows_are_few}
use Rattle.record_model.proofs.laws.rows_are_few.Goals as goal

pub returns : goal.returns
returns c = rows_are_few
