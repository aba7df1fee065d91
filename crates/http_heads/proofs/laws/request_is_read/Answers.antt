use Rattle.http_heads.proofs.HeadsRead.{request_is_read}
use Rattle.http_heads.proofs.laws.request_is_read.Goals as goal

pub returns : goal.returns
returns c = request_is_read
