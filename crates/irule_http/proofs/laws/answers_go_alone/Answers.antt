use Rattle.irule_http.proofs.Once.{http_once}
use Rattle.irule_http.proofs.laws.answers_go_alone.Goals as goal

pub returns : goal.returns
returns c = http_once
