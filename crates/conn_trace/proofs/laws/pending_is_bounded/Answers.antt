use Rattle.conn_trace.proofs.PendingFits.{pending_bounded}
use Rattle.conn_trace.proofs.laws.pending_is_bounded.Goals as goal

pub returns : goal.returns
returns c = pending_bounded
