use Rattle.conn_trace.proofs.Cutting.{rest_is_cut}
use Rattle.conn_trace.proofs.laws.rest_is_cut.Goals as goal

pub returns : goal.returns
returns c = rest_is_cut
