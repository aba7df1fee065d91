use Rattle.config.proofs.OneReading.{one_reading}
use Rattle.config.proofs.laws.one_configuration.Goals as goal

pub returns : goal.returns
returns c = one_reading
