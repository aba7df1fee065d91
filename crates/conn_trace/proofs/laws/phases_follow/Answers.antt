use Rattle.conn_trace.proofs.Stepping.{steps}
use Rattle.conn_trace.proofs.laws.phases_follow.Goals as goal

pub returns : goal.returns
returns c = steps
