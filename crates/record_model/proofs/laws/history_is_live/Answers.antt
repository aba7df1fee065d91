use Rattle.record_model.proofs.LiveHistory.{history_is_live}
use Rattle.record_model.proofs.laws.history_is_live.Goals as goal

pub returns : goal.returns
returns c = history_is_live
