use Rattle.http_heads.proofs.Trimmed.{response_back}
use Rattle.http_heads.proofs.laws.response_comes_back.Goals as goal

pub returns : goal.returns
returns c = response_back
