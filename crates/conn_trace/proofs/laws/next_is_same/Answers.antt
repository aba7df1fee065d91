use Rattle.conn_trace.proofs.Longer.{next_same}
use Rattle.conn_trace.proofs.laws.next_is_same.Goals as goal

pub returns : goal.returns
returns c = next_same
