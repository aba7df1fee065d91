use Rattle.proxy.proofs.Building.{runs}
use Rattle.proxy.proofs.laws.loaded_is_run.Goals as goal

pub returns : goal.returns
returns c = runs
