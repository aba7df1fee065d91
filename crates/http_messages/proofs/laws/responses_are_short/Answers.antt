use Rattle.http_messages.proofs.Short.{responses_short}
use Rattle.http_messages.proofs.laws.responses_are_short.Goals as goal

pub returns : goal.returns
returns c = responses_short
