use Rattle.http_heads.proofs.Trimmed.{response_trimmed}
use Rattle.http_heads.proofs.laws.response_is_trimmed.Goals as goal

pub returns : goal.returns
returns c = response_trimmed
