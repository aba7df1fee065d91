use Rattle.conn_trace.proofs.Stepping.{finishes_once}
use Rattle.conn_trace.proofs.laws.finishes_once.Goals as goal

pub returns : goal.returns
returns c = finishes_once
