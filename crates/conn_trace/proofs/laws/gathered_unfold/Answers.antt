use Rattle.conn_trace.proofs.Slices.{gathered_unfold}
use Rattle.conn_trace.proofs.laws.gathered_unfold.Goals as goal

pub returns : goal.returns
returns c = gathered_unfold
