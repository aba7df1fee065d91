use Rattle.proxy.proofs.Completing.{completes}
use Rattle.proxy.proofs.offline_commands.offline.Goals as goal

pub returns : goal.returns
returns g c = (c.run.result, c.status.ensures, c.run.ensures, completes _ _ _ _ _ _ _ _ c.run.result c.run.ensures)
