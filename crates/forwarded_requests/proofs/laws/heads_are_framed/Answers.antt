use Rattle.forwarded_requests.proofs.Framed.{heads_framed}
use Rattle.forwarded_requests.proofs.laws.heads_are_framed.Goals as goal

pub returns : goal.returns
returns c = heads_framed
