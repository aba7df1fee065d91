use Rattle.http_heads.proofs.HeadsRead.{response_is_read}
use Rattle.http_heads.proofs.laws.response_is_read.Goals as goal

pub returns : goal.returns
returns c = response_is_read
