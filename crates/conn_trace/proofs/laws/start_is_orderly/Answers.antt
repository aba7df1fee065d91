use Rattle.conn_trace.proofs.Stepping.{start_orderly}
use Rattle.conn_trace.proofs.laws.start_is_orderly.Goals as goal

pub returns : goal.returns
returns c = start_orderly
