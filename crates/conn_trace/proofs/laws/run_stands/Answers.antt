use Rattle.conn_trace.proofs.Hearing.{run_stands}
use Rattle.conn_trace.proofs.laws.run_stands.Goals as goal

pub returns : goal.returns
returns c = run_stands
