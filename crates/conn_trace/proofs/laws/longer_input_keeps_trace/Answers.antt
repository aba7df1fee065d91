use Rattle.conn_trace.proofs.Given.{trace_is_same}
use Rattle.conn_trace.proofs.laws.longer_input_keeps_trace.Goals as goal

pub returns : goal.returns
returns c = trace_is_same
