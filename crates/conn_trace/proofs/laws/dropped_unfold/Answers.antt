use Rattle.conn_trace.proofs.Slices.{dropped_unfold}
use Rattle.conn_trace.proofs.laws.dropped_unfold.Goals as goal

pub returns : goal.returns
returns c = dropped_unfold
