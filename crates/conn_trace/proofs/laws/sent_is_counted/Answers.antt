use Rattle.conn_trace.proofs.Given.{sent_counted}
use Rattle.conn_trace.proofs.laws.sent_is_counted.Goals as goal

pub returns : goal.returns
returns c = sent_counted
