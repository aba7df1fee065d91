use Rattle.rule_model.proofs.Pairs.{wider_agrees}
use Rattle.rule_model.proofs.laws.wider_host_agrees.Goals as goal

pub returns : goal.returns
returns g c = wider_agrees
