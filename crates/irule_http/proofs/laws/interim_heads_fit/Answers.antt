use Rattle.irule_http.proofs.SentHeads.{interim_fits}
use Rattle.irule_http.proofs.laws.interim_heads_fit.Goals as goal

pub returns : goal.returns
returns c = interim_fits
