use Rattle.irule_http.proofs.Moves.{any_moves}
use Rattle.irule_http.proofs.laws.heads_fit.Goals as goal

pub returns : goal.returns
returns c = λ most event h words m w. (any_moves event h words).heads most m w
