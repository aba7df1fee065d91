use Rattle.rule_loader.proofs.Faults.{least_told}
use Rattle.rule_loader.proofs.laws.least_is_told.Goals as goal

pub returns : goal.returns
returns c = least_told
