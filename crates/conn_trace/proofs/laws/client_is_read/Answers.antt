use Rattle.conn_trace.proofs.Sending.{client_read}
use Rattle.conn_trace.proofs.laws.client_is_read.Goals as goal

pub returns : goal.returns
returns c = client_read
