use Rattle.http_heads.proofs.ReadLengths.{request_short}
use Rattle.http_heads.proofs.laws.request_stays_short.Goals as goal

pub returns : goal.returns
returns c = request_short
