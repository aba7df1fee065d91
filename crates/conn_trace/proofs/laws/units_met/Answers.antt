use Rattle.conn_trace.proofs.Units.{units_met}
use Rattle.conn_trace.proofs.laws.units_met.Goals as goal

pub returns : goal.returns
returns c = units_met
