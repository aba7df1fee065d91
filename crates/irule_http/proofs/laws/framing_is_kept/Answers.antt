use Rattle.irule_http.proofs.KeptFraming.{framing_kept}
use Rattle.irule_http.proofs.laws.framing_is_kept.Goals as goal

pub returns : goal.returns
returns c = λ event h words. framing_kept event h words
