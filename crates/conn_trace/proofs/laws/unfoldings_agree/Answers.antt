use Rattle.conn_trace.proofs.Unfolding.{agree}
use Rattle.conn_trace.proofs.laws.unfoldings_agree.Goals as goal

pub returns : goal.returns
returns c = agree
