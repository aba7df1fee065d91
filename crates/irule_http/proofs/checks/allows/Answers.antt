use Rattle.irule_net.proofs.Found.{allowed_by}
use Rattle.irule_http.proofs.checks.allows.Goals as goal

pub returns : goal.returns
returns c = allowed_by _ _ _ c.is_allowed.ensures
