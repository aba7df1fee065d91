use Rattle.irule_http.proofs.Moves.{any_moves}
use Rattle.irule_http.proofs.laws.answers_are_counted.Goals as goal

pub returns : goal.returns
returns c = λ event h words.
    let m = any_moves event h words in record { client = m.sent; server = m.server; within = m.within }
