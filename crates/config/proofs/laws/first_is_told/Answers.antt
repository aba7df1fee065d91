use Rattle.config.proofs.FirstTold.{first_told}
use Rattle.config.proofs.laws.first_is_told.Goals as goal

pub returns : goal.returns
returns c = first_told
