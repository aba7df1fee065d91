use Rattle.forwarded_requests.proofs.Forwarding.{forwarded_one}
use Rattle.forwarded_requests.proofs.laws.forwarded_is_one.Goals as goal

pub returns : goal.returns
returns c = forwarded_one
