use Rattle.conn_trace.proofs.Taking.{met_more}
use Rattle.conn_trace.proofs.laws.met_more.Goals as goal

pub returns : goal.returns
returns c = met_more
