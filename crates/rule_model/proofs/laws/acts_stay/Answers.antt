use Rattle.rule_model.proofs.Facts.{acts_stay}
use Rattle.rule_model.proofs.laws.acts_stay.Goals as goal

pub returns : goal.returns
returns g c = acts_stay
