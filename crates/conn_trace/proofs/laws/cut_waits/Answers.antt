use Rattle.conn_trace.proofs.Cutting.{cut_waits}
use Rattle.conn_trace.proofs.laws.cut_waits.Goals as goal

pub returns : goal.returns
returns c = cut_waits
