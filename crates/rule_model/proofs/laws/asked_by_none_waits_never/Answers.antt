use Rattle.rule_model.proofs.Facts.{never_waits}
use Rattle.rule_model.proofs.laws.asked_by_none_waits_never.Goals as goal

pub returns : goal.returns
returns g c = never_waits
