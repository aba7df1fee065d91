use Rattle.conn_trace.proofs.Sending.{sent_to_server}
use Rattle.conn_trace.proofs.laws.sent_to_server.Goals as goal

pub returns : goal.returns
returns c = sent_to_server
