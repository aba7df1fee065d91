use Rattle.irule_http.proofs.Moves.{any_moves}
use Rattle.irule_http.proofs.laws.answered_once.Goals as goal

pub returns : goal.returns
returns c = λ event h words. (any_moves event h words).once
