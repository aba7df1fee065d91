use Rattle.http_heads.proofs.Forwarding.{request_short}
use Rattle.http_heads.proofs.laws.forwarded_request_is_short.Goals as goal

pub returns : goal.returns
returns c = request_short
