use Rattle.conn_trace.proofs.Hearing.{event_lengthens}
use Rattle.conn_trace.proofs.laws.each_event_lengthens.Goals as goal

pub returns : goal.returns
returns c = event_lengthens
