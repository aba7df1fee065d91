use Rattle.conn_trace.proofs.Unfolding.{stopped_is_whole}
use Rattle.conn_trace.proofs.laws.stopped_is_whole.Goals as goal

pub returns : goal.returns
returns c = stopped_is_whole
