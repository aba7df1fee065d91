use Rattle.conn_trace.proofs.Furthering.{cut_ends}
use Rattle.conn_trace.proofs.laws.cut_ends.Goals as goal

pub returns : goal.returns
returns c = cut_ends
