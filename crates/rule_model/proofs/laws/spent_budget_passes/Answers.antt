use Rattle.rule_model.proofs.Order.{spent_budget_passes}
use Rattle.rule_model.proofs.laws.spent_budget_passes.Goals as goal

pub returns : goal.returns
returns g c = spent_budget_passes
