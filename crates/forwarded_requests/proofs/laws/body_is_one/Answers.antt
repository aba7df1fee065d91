use Rattle.forwarded_requests.proofs.ReadBodies.{body_one}
use Rattle.forwarded_requests.proofs.laws.body_is_one.Goals as goal

pub returns : goal.returns
returns c = body_one
