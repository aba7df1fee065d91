use Rattle.conn_trace.proofs.Hearing.{event_stands}
use Rattle.conn_trace.proofs.laws.event_stands.Goals as goal

pub returns : goal.returns
returns c = event_stands
