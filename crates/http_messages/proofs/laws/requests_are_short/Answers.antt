use Rattle.http_messages.proofs.Short.{requests_short}
use Rattle.http_messages.proofs.laws.requests_are_short.Goals as goal

pub returns : goal.returns
returns c = requests_short
