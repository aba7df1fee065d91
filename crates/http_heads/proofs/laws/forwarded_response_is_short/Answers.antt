use Rattle.http_heads.proofs.Forwarding.{response_short}
use Rattle.http_heads.proofs.laws.forwarded_response_is_short.Goals as goal

pub returns : goal.returns
returns c = response_short
