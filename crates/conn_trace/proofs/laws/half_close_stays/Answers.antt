use Rattle.conn_trace.proofs.Querying.{half_close_stays}
use Rattle.conn_trace.proofs.laws.half_close_stays.Goals as goal

pub returns : goal.returns
returns c = half_close_stays
