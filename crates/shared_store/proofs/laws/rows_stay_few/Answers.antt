use Rattle.shared_store.proofs.FewRows.{rows_stay_few}
use Rattle.shared_store.proofs.laws.rows_stay_few.Goals as goal

pub returns : goal.returns
returns c = rows_stay_few
