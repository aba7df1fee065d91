use Rattle.rule_model.proofs.Facts.{calls_keep}
use Rattle.rule_model.proofs.laws.calls_keep_levels.Goals as goal

pub returns : goal.returns
returns g c = calls_keep
