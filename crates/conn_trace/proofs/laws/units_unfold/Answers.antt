use Rattle.conn_trace.proofs.Units.{units_unfold}
use Rattle.conn_trace.proofs.laws.units_unfold.Goals as goal

pub returns : goal.returns
returns c = units_unfold
