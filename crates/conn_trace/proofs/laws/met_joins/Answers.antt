use Rattle.conn_trace.proofs.Querying.{met_joins}
use Rattle.conn_trace.proofs.laws.met_joins.Goals as goal

pub returns : goal.returns
returns c = met_joins
