use Rattle.conn_trace.proofs.Cutting.{rest_is_cut_also}
use Rattle.conn_trace.proofs.laws.rest_is_cut_also.Goals as goal

pub returns : goal.returns
returns c = rest_is_cut_also
