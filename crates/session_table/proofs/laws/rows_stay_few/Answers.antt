use Rattle.session_table.proofs.FewRows.{rows_stay_few}
use Rattle.session_table.proofs.laws.rows_stay_few.Goals as goal

pub returns : goal.returns
returns c = rows_stay_few
