use Rattle.conn_trace.proofs.Given.{sent_output}
use Rattle.conn_trace.proofs.laws.sent_is_output.Goals as goal

pub returns : goal.returns
returns c = sent_output
