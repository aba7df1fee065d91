use Rattle.pool_monitor.proofs.History.{marks_defined_all}
use Rattle.pool_monitor.proofs.laws.marks_are_defined.Goals as goal

pub returns : goal.returns
returns g c = marks_defined_all g.N.Net.did
