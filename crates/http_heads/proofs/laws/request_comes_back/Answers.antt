use Rattle.http_heads.proofs.Trimmed.{request_back}
use Rattle.http_heads.proofs.laws.request_comes_back.Goals as goal

pub returns : goal.returns
returns c = request_back
