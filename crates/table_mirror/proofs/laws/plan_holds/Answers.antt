use Rattle.table_mirror.proofs.Holding.{plan_holds}
use Rattle.table_mirror.proofs.laws.plan_holds.Goals as goal

pub returns : goal.returns
returns c = plan_holds
