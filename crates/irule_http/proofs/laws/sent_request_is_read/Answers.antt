use Rattle.irule_http.proofs.SentHeads.{request_read}
use Rattle.irule_http.proofs.laws.sent_request_is_read.Goals as goal

pub returns : goal.returns
returns c = request_read
