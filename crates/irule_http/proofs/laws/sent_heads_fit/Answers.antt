use Rattle.irule_http.proofs.SentHeads.{sent_fits}
use Rattle.irule_http.proofs.laws.sent_heads_fit.Goals as goal

pub returns : goal.returns
returns c = sent_fits
