use Rattle.conn_trace.proofs.Taking.{taken_all_opens}
use Rattle.conn_trace.proofs.laws.taken_all_opens.Goals as goal

pub returns : goal.returns
returns c = taken_all_opens
