use Rattle.forwarded_requests.proofs.OneRequest.{request_one}
use Rattle.forwarded_requests.proofs.laws.request_is_one.Goals as goal

pub returns : goal.returns
returns c = request_one
