use Rattle.rule_model.proofs.Facts.{host_shows}
use Rattle.rule_model.proofs.laws.host_shows_acts.Goals as goal

pub returns : goal.returns
returns g c = host_shows
