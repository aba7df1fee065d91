use Rattle.conn_trace.proofs.Furthering.{further_keeps}
use Rattle.conn_trace.proofs.laws.further_keeps_trace.Goals as goal

pub returns : goal.returns
returns c = further_keeps
