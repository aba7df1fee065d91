use Rattle.http_heads.proofs.ReadLengths.{response_short}
use Rattle.http_heads.proofs.laws.response_stays_short.Goals as goal

pub returns : goal.returns
returns c = response_short
