use Rattle.conn_trace.proofs.Unfolding.{trace_unfolds}
use Rattle.conn_trace.proofs.laws.trace_is_unfolding.Goals as goal

pub returns : goal.returns
returns c = trace_unfolds
