use Rattle.conn_trace.proofs.Speaking.{http_is_spoken}
use Rattle.conn_trace.proofs.laws.http_is_spoken.Goals as goal

pub returns : goal.returns
returns c = http_is_spoken
