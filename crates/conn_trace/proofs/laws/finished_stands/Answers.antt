use Rattle.conn_trace.proofs.Hearing.{finished_stands}
use Rattle.conn_trace.proofs.laws.finished_stands.Goals as goal

pub returns : goal.returns
returns c = finished_stands
