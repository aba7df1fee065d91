use Rattle.conn_trace.proofs.Given.{unfolds_behind}
use Rattle.conn_trace.proofs.laws.unfolds_behind.Goals as goal

pub returns : goal.returns
returns c = unfolds_behind
