use Rattle.http_heads.proofs.OneHead.{request_one}
use Rattle.http_heads.proofs.laws.request_is_one.Goals as goal

pub returns : goal.returns
returns c = request_one
