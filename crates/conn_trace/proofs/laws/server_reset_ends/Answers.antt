use Rattle.conn_trace.proofs.Cutting.{server_reset_ends}
use Rattle.conn_trace.proofs.laws.server_reset_ends.Goals as goal

pub returns : goal.returns
returns c = server_reset_ends
