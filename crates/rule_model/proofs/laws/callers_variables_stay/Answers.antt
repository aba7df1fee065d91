use Rattle.rule_model.proofs.Facts.{callers_stay}
use Rattle.rule_model.proofs.laws.callers_variables_stay.Goals as goal

pub returns : goal.returns
returns g c = callers_stay
