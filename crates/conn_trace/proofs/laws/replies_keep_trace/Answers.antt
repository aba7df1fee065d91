use Rattle.conn_trace.proofs.Furthering.{replies_keep}
use Rattle.conn_trace.proofs.laws.replies_keep_trace.Goals as goal

pub returns : goal.returns
returns c = replies_keep
