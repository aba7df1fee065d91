use Rattle.pool_monitor.proofs.NewMembers as new
use Rattle.pool_monitor.proofs.laws.read_are_new.Goals as goal

pub returns : goal.returns
returns c = new.read_are_new
