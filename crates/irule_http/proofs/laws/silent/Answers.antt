use Rattle.irule_http.proofs.Quieting.{silent}
use Rattle.irule_http.proofs.laws.silent.Goals as goal

pub returns : goal.returns
returns c = silent
