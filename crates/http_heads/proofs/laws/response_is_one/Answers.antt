use Rattle.http_heads.proofs.OneHead.{response_one}
use Rattle.http_heads.proofs.laws.response_is_one.Goals as goal

pub returns : goal.returns
returns c = response_one
