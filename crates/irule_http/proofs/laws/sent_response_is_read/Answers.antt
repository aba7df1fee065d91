use Rattle.irule_http.proofs.SentHeads.{response_read}
use Rattle.irule_http.proofs.laws.sent_response_is_read.Goals as goal

pub returns : goal.returns
returns c = response_read
