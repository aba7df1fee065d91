use Rattle.proxy_core.proofs.Others.{only_its_own_changes}
use Rattle.proxy_core.proofs.laws.only_changed.Goals as goal

pub returns : goal.returns
returns c = only_its_own_changes
