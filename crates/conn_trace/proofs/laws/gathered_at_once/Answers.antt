use Rattle.conn_trace.proofs.Slices.{gathered_at_once}
use Rattle.conn_trace.proofs.laws.gathered_at_once.Goals as goal

pub returns : goal.returns
returns c = gathered_at_once
