use Rattle.http_heads.proofs.Trimmed.{request_trimmed}
use Rattle.http_heads.proofs.laws.request_is_trimmed.Goals as goal

pub returns : goal.returns
returns c = request_trimmed
