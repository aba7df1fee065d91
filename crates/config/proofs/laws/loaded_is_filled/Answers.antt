use Rattle.config.proofs.Filling.{is_filled}
use Rattle.config.proofs.laws.loaded_is_filled.Goals as goal

pub returns : goal.returns
returns c = is_filled
